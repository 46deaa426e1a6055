use Rattle.std.proofs.Common.{length, arith}
use Rattle.std.proofs.lemmas.Bool.Decides.{nat_tests}
use Rattle.maps.specs.Tree.{requirement_slots}
use Rattle.maps.specs.Places.{masks_of}
use Rattle.maps.proofs.Slots.{found_at, none_at}
use Rattle.maps.proofs.loaded_map.replies.LoadedMapLocationMap.counts.Goals as goal

pub returns-then-is_at_or_above : goal.returns-then-is_at_or_above
returns-then-is_at_or_above c =
    let ps = c.args.self.now.places.items in
    let f = found_at (requirement_slots (length ps) (masks_of ps)) c.args.requirement c.in-Some.slot (rw c.as_slice.ensures.value at c.in-Some.ensures) in
    let i = c.is_at_or_above.ensures 10 (omega arith) in
    grind (arith, nat_tests)

pub returns-else-is_at_or_above : goal.returns-else-is_at_or_above
returns-else-is_at_or_above c =
    let ps = c.args.self.now.places.items in
    let f = found_at (requirement_slots (length ps) (masks_of ps)) c.args.requirement c.in-Some.slot (rw c.as_slice.ensures.value at c.in-Some.ensures) in
    let i = c.is_at_or_above.ensures 10 (omega arith) in
    grind (arith, nat_tests)

pub returns-in-None : goal.returns-in-None
returns-in-None c =
    let ps = c.args.self.now.places.items in
    let n = none_at (requirement_slots (length ps) (masks_of ps)) c.args.requirement (rw c.as_slice.ensures.value at c.in-None.ensures) in
    grind (arith, nat_tests)
