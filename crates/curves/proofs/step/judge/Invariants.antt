use Rattle.std.proofs.Common.{◌≡◌, ◌-◌, length}
use Rattle.faults.specs.declared.fault.Fault.TheVariants.{CurveSteps}
use Rattle.sums.specs.Verdict.{every}
use Rattle.curves.specs.Steps.{step_ok, curve_verdict}
use Rattle.curves.proofs.step.judge.Given as goal

abbrev pub invariant-loop-i : goal.invariant-loop-i
invariant-loop-i l = every (step_ok l.steps) (CurveSteps l.number) l.i (length l.steps - l.i) ≡ curve_verdict l.number l.steps
