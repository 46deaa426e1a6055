use Rattle.curves.proofs.Judging.{judged_curve, curve_judged}
use Rattle.curves.proofs.exactly_curves_are_accepted.Goals as goal

pub returns : goal.returns
returns c n ss = (judged_curve n ss, curve_judged n ss)
