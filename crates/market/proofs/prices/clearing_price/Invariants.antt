use Rattle.std.proofs.Common.{◌≡◌, ◌-◌, ◌*◌, ◌^◌, ◌≤◌, get_or, sum_by}
use Rattle.sums.specs.Sums.{upto, when}
use Rattle.market.proofs.prices.clearing_price.Given as goal

abbrev pub invariant-loop-requirement : goal.invariant-loop-requirement
invariant-loop-requirement g l =
    (l.sum ≡ sum_by (λ k. when ((g.M.LocationMap.market l.map).counts k l.product l.location) (get_or l.shadow_prices k 0)) (upto l.requirement))
    × (l.sum ≤ l.requirement * (2 ^ 32 - 1))
