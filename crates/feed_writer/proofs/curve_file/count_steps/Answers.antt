use Rattle.std.proofs.Common.{List, length, ap, ◌∙◌, arith, rules}
use Rattle.curves.specs.declared.step.Step.{Step}
use Rattle.feed_writer.specs.CurveBytes.{all_steps}
use Rattle.feed_writer.proofs.Steps.{curve_counted, all_taken}
use Rattle.feed_writer.proofs.curve_file.count_steps.Goals as goal

pub overflow_add-count : goal.overflow_add-count
overflow_add-count c = let f = c.steps.ensures.law.few in search rules

pub loop-curve-preserved : goal.loop-curve-preserved
loop-curve-preserved c =
    let f = c.steps.ensures.law.few in
    let n = curve_counted c.args.curves.now c.loop-curve.curve-index c.curve-item.result c.steps.result.now c.loop-curve-test.true c.curve-item.is c.steps.ensures.value in
    (omega arith, omega arith)

pub returns : goal.returns
returns c = record {
  value = c.loop-curve.invariant.0 ∙ ap (λ (cs : List (List Step)). length (all_steps cs)) (all_taken c.args.curves.now c.loop-curve.curve-index c.loop-curve-test.false);
  bound = omega arith;
}
