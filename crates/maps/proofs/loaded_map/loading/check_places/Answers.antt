use Rattle.std.proofs.Common.{length, sym, ◌∙◌, arith, rules}
use Rattle.faults.specs.declared.fault.Fault.TheVariants.{MapArrays}
use Rattle.sums.proofs.Verdicts.{every_bad, every_good, every_end}
use Rattle.maps.specs.Tree.{is_placed_lem}
use Rattle.maps.proofs.loaded_map.loading.check_places.Goals as goal

pub loop-location-preserved : goal.loop-location-preserved
loop-location-preserved c =
    sym (every_good (is_placed_lem c.args.parents.now c.args.masks.now) MapArrays c.loop-location.location (length c.args.parents.now) c.loop-location-test.true (search rules))
    ∙ c.loop-location.invariant

pub returns-then-not-fits : goal.returns-then-not-fits
returns-then-not-fits c =
    sym (every_bad (is_placed_lem c.args.parents.now c.args.masks.now) MapArrays c.loop-location.location (length c.args.parents.now) c.loop-location-test.true (search rules))
    ∙ c.loop-location.invariant

pub returns : goal.returns
returns c =
    sym (every_end (is_placed_lem c.args.parents.now c.args.masks.now) MapArrays c.loop-location.location (length c.args.parents.now) (omega arith))
    ∙ c.loop-location.invariant
