use Rattle.feed.proofs.Later.{later_bytes}
use Rattle.feed.proofs.runs.later_bytes_change_nothing.Goals as goal

pub returns : goal.returns
returns c = later_bytes
