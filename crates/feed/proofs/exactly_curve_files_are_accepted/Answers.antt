use Rattle.feed.proofs.Accepted.{file_law}
use Rattle.feed.proofs.exactly_curve_files_are_accepted.Goals as goal

pub returns : goal.returns
returns c = file_law
