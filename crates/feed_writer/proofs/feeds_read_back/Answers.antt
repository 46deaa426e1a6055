use Rattle.feed_writer.proofs.Trips.{feed_back}
use Rattle.feed_writer.proofs.feeds_read_back.Goals as goal

pub returns : goal.returns
returns c = feed_back
