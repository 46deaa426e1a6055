use Rattle.std.proofs.Common.{◌≡◌, ℕ, ◌<◌, ◌≤◌, length, get_or, sum_by}
use Rattle.sums.specs.Sums.{upto}
use Rattle.market.specs.Totals.{no_totals, counted}
use Rattle.market.proofs.quantity.quantities.Given as goal

abbrev pub invariant-loop-requirement : goal.invariant-loop-requirement
invariant-loop-requirement g l =
    (length l.table ≡ 32)
    × ((k : ℕ) → k < l.requirement → get_or l.table k 0 ≡ sum_by (λ j. counted (g.M.LocationMap.market l.map) k j (get_or l.totals j no_totals)) (upto (g.M.LocationMap.market l.map).locations))
    × ((k : ℕ) → l.requirement ≤ k → get_or l.table k 0 ≡ 0)
