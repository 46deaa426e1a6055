use Rattle.sums.proofs.Verdicts.{first_failure_told}
use Rattle.sums.proofs.first_failure_is_told.Goals as goal

pub returns : goal.returns
returns g c = first_failure_told _
