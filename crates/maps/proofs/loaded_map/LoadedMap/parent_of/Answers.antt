use Rattle.std.proofs.Common.{sym}
use Rattle.std.proofs.Math.ListN.{get_or-map}
use Rattle.maps.specs.declared.place.Place.{Place}
use Rattle.maps.proofs.loaded_map.LoadedMap.parent_of.Goals as goal

pub returns : goal.returns
returns c = rw c.as_slice.ensures.value (sym (get_or-map (λ (p : Place). p.parent) c.args.self.now.places.items c.args.location (record { parent = 0; mask = 0 })))
