use Rattle.std.proofs.Common.{◌≡◌, drop}
use Rattle.curves.specs.Value.{value_at}
use Rattle.curves.proofs.curve.read.value_of.Given as goal

abbrev pub invariant-loop-step : goal.invariant-loop-step
invariant-loop-step l = value_at (drop l.step-index l.steps) l.target l.quantity ≡ value_at l.steps l.target l.quantity
