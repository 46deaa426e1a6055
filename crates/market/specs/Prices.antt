-- Clearing prices, quantities, and what they cost, as the tariff has them.
use Rattle.std.specs.Prelude.{ℕ, List, [], ◌∷◌, ℤ, pos, ◌-ℤ◌, ◌*ℤ◌, sum_by, slice_index}
use Rattle.sums.specs.Sums.{upto, sum_z, when}
use Rattle.maps.specs.declared.product.Product.{Product}
use Rattle.maps.specs.declared.product.Product.TheVariants.{ThirtyMinute, TenMinute, Spinning}
use Rattle.maps.specs.Market.{Market}
use Rattle.market.specs.Products.{Reserves, amount_of}

abbrev pub products : List Product
products = ThirtyMinute ∷ TenMinute ∷ Spinning ∷ []

abbrev pub tenths : Reserves → Product → ℕ
tenths = amount_of

abbrev pub none_reserved : Reserves
none_reserved = record { thirty = 0; ten = 0; spinning = 0 }

-- the clearing price of a product at a location: the sum of the shadow prices that it counts toward
abbrev pub price : Market → List ℕ → Product → ℕ → ℕ
price m shadow p l = sum_by (λ k. when (m.counts k p l) (slice_index shadow k)) (upto m.requirements)

-- a supplier's reserves at its location
pub record Located : Type 0 where
  pub place : ℕ
  pub reserves : Reserves

abbrev pub located : List ℕ → List Reserves → List Located
located [] rs = []
located (l ∷ ls) [] = []
located (l ∷ ls) (r ∷ rs) = record { place = l; reserves = r } ∷ located ls rs

-- the tenths of one supplier that count toward requirement k
abbrev pub toward : Market → ℕ → ℕ → Reserves → ℕ
toward m k l r = sum_by (λ p. when (m.counts k p l) (tenths r p)) products

-- the quantity of requirement k: all scheduled tenths that count toward it
abbrev pub quantity : Market → List ℕ → List Reserves → ℕ → ℕ
quantity m places rs k = sum_by (λ x. toward m k x.place x.reserves) (located places rs)

-- what amounts of the products at a location earn in one second, in grains
abbrev pub worth : Market → List ℕ → ℕ → (Product → ℤ) → ℤ
worth m shadow l amount = sum_z (λ p. pos (price m shadow p l) *ℤ amount p) products

-- the amounts of a schedule, and those by which real time differs from day ahead
abbrev pub amounts : Reserves → Product → ℤ
amounts r p = pos (tenths r p)

abbrev pub over : Reserves → Reserves → Product → ℤ
over real ahead p = pos (tenths real p) -ℤ pos (tenths ahead p)

-- what the requirements cost in one second, in grains: by schedules, and by real time less day ahead
abbrev pub cost : Market → List ℕ → List ℕ → List Reserves → ℤ
cost m shadow places rs = sum_z (λ k. pos (slice_index shadow k) *ℤ pos (quantity m places rs k)) (upto m.requirements)

abbrev pub cost_over_lem : Market → List ℕ → List ℕ → List Reserves → List Reserves → ℤ
cost_over_lem m shadow places real ahead =
    sum_z (λ k. pos (slice_index shadow k) *ℤ (pos (quantity m places real k) -ℤ pos (quantity m places ahead k))) (upto m.requirements)
