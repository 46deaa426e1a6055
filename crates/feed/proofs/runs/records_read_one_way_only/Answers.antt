use Rattle.feed.proofs.Later.{one_reading_law}
use Rattle.feed.proofs.runs.records_read_one_way_only.Goals as goal

pub returns : goal.returns
returns c = one_reading_law
