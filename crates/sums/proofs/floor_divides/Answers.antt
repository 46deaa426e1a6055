use Rattle.sums.proofs.Floors.{floor_divides_lem}
use Rattle.sums.proofs.floor_divides.Goals as goal

pub returns : goal.returns
returns c = floor_divides_lem
