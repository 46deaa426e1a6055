use Rattle.std.proofs.Common.{◌≡◌, ◌-◌, length}
use Rattle.faults.specs.declared.fault.Fault.TheVariants.{MapArrays}
use Rattle.sums.specs.Verdict.{every}
use Rattle.maps.specs.Tree.{is_placed_lem}
use Rattle.maps.proofs.loaded_map.loading.check_places.Given as goal

abbrev pub invariant-loop-location : goal.invariant-loop-location
invariant-loop-location l =
    every (is_placed_lem l.parents l.masks) MapArrays l.location (length l.parents - l.location)
    ≡ every (is_placed_lem l.parents l.masks) MapArrays 0 (length l.parents)
