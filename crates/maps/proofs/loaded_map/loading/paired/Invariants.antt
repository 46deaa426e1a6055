use Rattle.std.proofs.Common.{◌≡◌, length, take}
use Rattle.maps.specs.Places.{parents_of, masks_of}
use Rattle.maps.proofs.loaded_map.loading.paired.Given as goal

abbrev pub invariant-loop-parent : goal.invariant-loop-parent
invariant-loop-parent l =
    (parents_of l.places.items ≡ take (length l.yielded) l.parents)
    × (masks_of l.places.items ≡ take (length l.yielded) l.masks)
    × (length l.places.items ≡ length l.yielded)
