use Rattle.std.proofs.Common.{◌≡◌, ◌+◌, length}
use Rattle.maps.specs.Tree.{slots, wanted_at}
use Rattle.maps.specs.Places.{masks_of}
use Rattle.maps.proofs.loaded_map.slots.slot_of.Given as goal

abbrev pub invariant-loop-slot : goal.invariant-loop-slot
invariant-loop-slot l = l.left + length (slots (wanted_at (masks_of l.places)) l.slot) ≡ l.requirement
