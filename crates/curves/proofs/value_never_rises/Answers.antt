use Rattle.curves.proofs.Values.{value_law}
use Rattle.curves.proofs.value_never_rises.Goals as goal

pub returns : goal.returns
returns c = value_law
