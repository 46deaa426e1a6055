use Rattle.std.proofs.Common.{arith}
use Rattle.law.specs.Ledger.{aheads, places}
use Rattle.planning.proofs.Planning.{cost_is}
use Rattle.planning.proofs.plan.paid_in_second.Goals as goal

pub cost_of-requires-clause-low : goal.cost_of-requires-clause-low
cost_of-requires-clause-low g c = λ k. omega (arith, c.quantities.ensures.bound k, c.requires.few)

pub returns-in-RealTime : goal.returns-in-RealTime
returns-in-RealTime g c = rw c.in-RealTime.is (cost_is (g.M.LocationMap.market c.args.map.now) c.args.shadow_prices.now (places c.args.accounts.now) (aheads c.args.accounts.now) c.quantities.result c.cost_of.result c.requires.priced c.quantities.ensures.value c.cost_of.ensures)
