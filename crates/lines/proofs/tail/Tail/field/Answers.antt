use Rattle.lines.proofs.Puts.{grown_before}
use Rattle.lines.proofs.tail.Tail.field.Goals as goal

pub returns : goal.returns
returns c = grown_before _ _ _ _ _ c.decimal.ensures c.byte.ensures
