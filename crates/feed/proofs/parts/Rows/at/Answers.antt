use Rattle.std.proofs.Common.{◌∙◌}
use Rattle.feed.proofs.Listed.{row_listed}
use Rattle.feed.proofs.parts.Rows.at.Goals as goal

pub returns : goal.returns
returns g c = c.read.ensures ∙ row_listed g.R.Row.WIDTH g.R.Row.row_at c.args.self.now.numbers.now c.args.self.now.rest.now c.args.i
