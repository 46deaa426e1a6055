use Rattle.std.proofs.Common.{◌≡◌, ◌*◌, ◌^◌, ◌≤◌, get_or, sum_by}
use Rattle.sums.specs.Sums.{upto}
use Rattle.market.specs.Totals.{no_totals, counted}
use Rattle.market.proofs.quantity.quantity_toward.Given as goal

abbrev pub invariant-loop-location : goal.invariant-loop-location
invariant-loop-location g l =
    (l.sum ≡ sum_by (λ j. counted (g.M.LocationMap.market l.map) l.requirement j (get_or l.totals j no_totals)) (upto l.location))
    × (l.sum ≤ l.location * (3 * 2 ^ 96))
