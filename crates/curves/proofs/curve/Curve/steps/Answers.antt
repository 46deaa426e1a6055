use Rattle.curves.proofs.Judging.{held_curve}
use Rattle.curves.proofs.curve.Curve.steps.Goals as goal

pub returns-clause-law : goal.returns-clause-law
returns-clause-law c = held_curve _ c.args.self.now.steps.items c.as_slice.ensures.value c.args.self.now.sound
