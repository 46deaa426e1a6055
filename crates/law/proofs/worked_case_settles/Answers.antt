use Rattle.law.proofs.Case.{worked_case}
use Rattle.law.proofs.worked_case_settles.Goals as goal

pub returns : goal.returns
returns c = worked_case
