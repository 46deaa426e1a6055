use Rattle.feed.proofs.Later.{pieces_law}
use Rattle.feed.proofs.runs.pieces_give_the_same_records.Goals as goal

pub returns : goal.returns
returns c = pieces_law
