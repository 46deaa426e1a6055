use Rattle.std.proofs.Common.{◌≡◌, ◌≤◌, ◌+◌, ◌*◌, length}
use Rattle.maps.specs.Tree.{slots, wanted_at}
use Rattle.maps.specs.Places.{masks_of}
use Rattle.maps.proofs.loaded_map.slots.count_wanted.Given as goal

abbrev pub invariant-loop-product : goal.invariant-loop-product
invariant-loop-product l = (l.found ≡ length (slots (wanted_at (masks_of l.places)) (3 * l.place-index + l.product))) × (l.found ≤ 3 * l.place-index + l.product)

abbrev pub invariant-loop-place : goal.invariant-loop-place
invariant-loop-place l = (l.found ≡ length (slots (wanted_at (masks_of l.places)) (3 * l.place-index))) × (l.found ≤ 3 * l.place-index)
