-- Posting by a table of prices, which is worked out once for all accounts.
use Rattle.std.specs.Prelude.{ℕ, ℤ, pos, ◌+ℤ◌, ◌*ℤ◌, slice_index_or}
use Rattle.sums.specs.Sums.{sum_z}
use Rattle.maps.specs.declared.product.Product.{Product}
use Rattle.maps.specs.declared.product.Product.TheVariants.{ThirtyMinute, TenMinute, Spinning}
use Rattle.market.specs.Products.{ProductPrices, Reserves}
use Rattle.market.specs.Prices.{products, none_reserved, over}
use Rattle.market.specs.Tables.{no_prices}
use Rattle.accounts.specs.declared.supplier.Supplier.{Supplier}
use Rattle.accounts.specs.declared.posting.Terms.{Terms}
use Rattle.accounts.specs.declared.posting.Timing.{Timing}
use Rattle.accounts.specs.declared.posting.Timing.TheVariants.{DayAhead, RealTime}
use Rattle.accounts.specs.Posting.{with_hour_lem}

abbrev pub price_in : ProductPrices → Product → ℕ
price_in q ThirtyMinute = q.thirty
price_in q TenMinute = q.ten
price_in q Spinning = q.spinning

-- what amounts of the products earn in one second, in grains
abbrev pub earned : ProductPrices → (Product → ℤ) → ℤ
earned q amount = sum_z (λ p. pos (price_in q p) *ℤ amount p) products

-- a location past the table has price 0
abbrev pub prices_for : Terms → Supplier → ProductPrices
prices_for t a = slice_index_or t.prices a.location no_prices

-- the schedule that is paid already: none before the day-ahead schedule, and that one in real time
abbrev pub paid_at : Timing → Reserves → Reserves
paid_at DayAhead ahead = none_reserved
paid_at RealTime ahead = ahead

abbrev pub paid_for : Terms → Supplier → Reserves
paid_for t a = paid_at t.timing a.ahead

-- what the row earns in one second
abbrev pub earned_by : Terms → Supplier → Reserves → ℤ
earned_by t a r = earned (prices_for t a) (over r (paid_for t a))

-- the grains of the hour, and the day-ahead schedule, with a row posted
abbrev pub hour_by_lem : Terms → Supplier → Reserves → ℤ
hour_by_lem t a r = a.hour +ℤ earned_by t a r *ℤ pos t.seconds

abbrev pub kept_at : Timing → (posted ahead : Reserves) → Reserves
kept_at DayAhead posted ahead = posted
kept_at RealTime posted ahead = ahead

abbrev pub ahead_by_lem : Terms → Supplier → Reserves → Reserves
ahead_by_lem t a r = kept_at t.timing r a.ahead

abbrev pub post_by : Terms → Supplier → Reserves → Supplier
post_by t a r = with_hour_lem a (hour_by_lem t a r) (ahead_by_lem t a r)
