use Rattle.std.proofs.Common.{length, sym, ◌∙◌, true, false, ◌≡◌, arith}
use Rattle.std.proofs.lemmas.Bool.Decides.{nat_tests}
use Rattle.faults.specs.declared.fault.Fault.TheVariants.{CurveSteps}
use Rattle.sums.proofs.Verdicts.{every_bad, every_good, every_end}
use Rattle.curves.specs.Steps.{step_ok}
use Rattle.curves.proofs.Judging.{judged_curve, held_sound, falls_taken}
use Rattle.curves.proofs.step.judge.Goals as goal

pub loop-i-preserved : goal.loop-i-preserved
loop-i-preserved c =
    let ok : step_ok c.args.steps.now c.loop-i.i ≡ true = let f = falls_taken c.args.steps.now c.loop-i.i (omega arith) in grind (arith, nat_tests) in
    sym (every_good (step_ok c.args.steps.now) (CurveSteps c.args.number) c.loop-i.i (length c.args.steps.now) (omega arith) ok)
    ∙ c.loop-i.invariant

pub returns-then-not-is_sound-clause-reply : goal.returns-then-not-is_sound-clause-reply
returns-then-not-is_sound-clause-reply c =
    let ok : step_ok c.args.steps.now c.loop-i.i ≡ false = let f = falls_taken c.args.steps.now c.loop-i.i (omega arith) in grind (arith, nat_tests) in
    sym (every_bad (step_ok c.args.steps.now) (CurveSteps c.args.number) c.loop-i.i (length c.args.steps.now) (omega arith) ok)
    ∙ c.loop-i.invariant

pub returns : goal.returns
returns c =
    let e =
    sym (every_end (step_ok c.args.steps.now) (CurveSteps c.args.number) c.loop-i.i (length c.args.steps.now) (omega arith))
    ∙ c.loop-i.invariant
    in
    let k = judged_curve c.args.number c.args.steps.now (sym e) in
    record { reply = e; short = k.few; sound = held_sound c.args.steps.now k }
