use Rattle.sums.proofs.SumLaws.{sum_exchange}
use Rattle.sums.proofs.sums_exchange.Goals as goal

pub returns : goal.returns
returns g c = sum_exchange
