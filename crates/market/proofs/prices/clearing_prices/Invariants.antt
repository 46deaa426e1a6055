use Rattle.std.proofs.Common.{◌≡◌, ℕ, ◌<◌, ◌≤◌, length, get_or}
use Rattle.market.specs.Tables.{no_prices, prices_at_lem}
use Rattle.market.proofs.prices.clearing_prices.Given as goal

abbrev pub invariant-loop-l : goal.invariant-loop-l
invariant-loop-l g l =
    (length l.table ≡ 16)
    × ((k : ℕ) → k < l.l → get_or l.table k no_prices ≡ prices_at_lem (g.M.LocationMap.market l.map) l.shadow_prices k)
    × ((k : ℕ) → l.l ≤ k → get_or l.table k no_prices ≡ no_prices)
