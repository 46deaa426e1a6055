-- Tenths added up by location, an intermediate table of the quantities.
use Rattle.std.specs.Prelude.{◌≡◌, ℕ, ◌+◌, ◌*◌, ◌^◌, ◌≤◌, List, length, get_or, sum_by, slice_index_or, slice_set}
use Rattle.sums.specs.Sums.{upto, when}
use Rattle.maps.specs.declared.product.Product.TheVariants.{ThirtyMinute, TenMinute, Spinning}
use Rattle.maps.specs.Market.{Market, MapLaw}
use Rattle.market.specs.declared.per_product.PerProduct.{PerProduct}
use Rattle.market.specs.Products.{Reserves}
use Rattle.market.specs.Prices.{quantity}

-- all tenths of each product at one location
abbrev pub Totals : Type 0
Totals = PerProduct ℕ

abbrev pub no_totals : Totals
no_totals = record { thirty = 0; ten = 0; spinning = 0 }

-- the part of a location's totals that counts toward requirement k
abbrev pub counted : Market → ℕ → ℕ → Totals → ℕ
counted m k l t = when (m.counts k ThirtyMinute l) t.thirty + when (m.counts k TenMinute l) t.ten + when (m.counts k Spinning l) t.spinning

-- no entry of the table is above n
abbrev pub AtMost : ℕ → List Totals → Type 0
AtMost n ts = (l : ℕ) → ((get_or ts l no_totals).thirty ≤ n) × ((get_or ts l no_totals).ten ≤ n) × ((get_or ts l no_totals).spinning ≤ n)

abbrev pub plus : Totals → Reserves → Totals
plus t r = record { thirty = t.thirty + r.thirty; ten = t.ten + r.ten; spinning = t.spinning + r.spinning }

abbrev pub added : List Totals → ℕ → Reserves → List Totals
added ts l r = slice_set ts l (plus (slice_index_or ts l no_totals) r)

-- the table gives the quantity of every requirement of every map
pub record Tallies (places : List ℕ) (rs : List Reserves) (ts : List Totals) : Type 0 where
  pub long : length ts ≡ 16
  pub low : AtMost (2 ^ 32 * length places) ts
  pub same : (m : Market) → MapLaw m → (k : ℕ) → sum_by (λ l. counted m k l (slice_index_or ts l no_totals)) (upto m.locations) ≡ quantity m places rs k
