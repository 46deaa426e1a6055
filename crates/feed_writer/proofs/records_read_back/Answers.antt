use Rattle.feed_writer.proofs.Trips.{record_back}
use Rattle.feed_writer.proofs.records_read_back.Goals as goal

pub returns : goal.returns
returns c = record_back
