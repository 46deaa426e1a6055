use Rattle.feed.proofs.Later.{ending_law}
use Rattle.feed.proofs.runs.no_feed_is_endless.Goals as goal

pub returns : goal.returns
returns c = ending_law
