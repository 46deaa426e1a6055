use Rattle.feed.proofs.Later.{truncated_law}
use Rattle.feed.proofs.runs.truncated_only_where_bytes_are_missing.Goals as goal

pub returns : goal.returns
returns c = truncated_law
