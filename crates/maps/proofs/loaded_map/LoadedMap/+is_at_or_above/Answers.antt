use Rattle.std.proofs.Common.{arith, rules}
use Rattle.maps.specs.Places.{parents_of}
use Rattle.maps.proofs.Reaching.{same, root, up}
use Rattle.maps.proofs.loaded_map.LoadedMap.+is_at_or_above.Goals as goal

pub returns-then-upper-location : goal.returns-then-upper-location
returns-then-upper-location t c = λ n l. same _ _ _ (search rules) n

pub returns-then-location-eq-ROOT : goal.returns-then-location-eq-ROOT
returns-then-location-eq-ROOT t c = λ n l. root _ _ _ (c.args.self.now.falls 0 (omega arith)).0 (search rules) (omega arith) n

pub returns-else-location-eq-ROOT : goal.returns-else-location-eq-ROOT
returns-else-location-eq-ROOT t c =
    up (parents_of c.args.self.now.places.items) _ _ _ (omega arith) ((c.args.self.now.falls c.args.location (search rules)).1 (omega arith))
    (rw c.parent_of.ensures at c.is_at_or_above.ensures)
