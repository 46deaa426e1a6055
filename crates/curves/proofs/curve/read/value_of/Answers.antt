use Rattle.std.proofs.Common.{arith}
use Rattle.std.proofs.lemmas.Bool.Decides.{nat_tests}
use Rattle.curves.proofs.Values.{value_next, value_none}
use Rattle.curves.proofs.curve.read.value_of.Goals as goal

pub loop-step-preserved : goal.loop-step-preserved
loop-step-preserved c = grind (arith, nat_tests, value_next)

pub returns-then-reaches : goal.returns-then-reaches
returns-then-reaches c = grind (arith, nat_tests, value_next)

pub returns : goal.returns
returns c = grind (arith, nat_tests, value_none)
