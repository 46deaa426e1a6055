use Rattle.market.proofs.Better.{better_never_cheaper}
use Rattle.market.proofs.better_is_never_cheaper.Goals as goal

pub returns : goal.returns
returns g c x = better_never_cheaper (g.M.LocationMap.market x) (g.met.M.LocationMap.lawful x)
