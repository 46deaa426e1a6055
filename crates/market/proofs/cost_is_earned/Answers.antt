use Rattle.market.proofs.Costs.{cost_is_earned_lem}
use Rattle.market.proofs.cost_is_earned.Goals as goal

pub returns : goal.returns
returns g c x = cost_is_earned_lem (g.M.LocationMap.market x)
