-- Laws of prices and cost that hold under every location map.
use Rattle.std.specs.Prelude.{◌≡◌, ℕ, ◌≤◌, List, [], ◌∷◌, length, ℤ}
use Rattle.sums.specs.Sums.{sum_z, each}
use Rattle.maps.specs.declared.product.Product.TheVariants.{ThirtyMinute, TenMinute, Spinning}
use Rattle.maps.specs.Market.{Market}
use Rattle.market.specs.Products.{Reserves}
use Rattle.market.specs.Prices.{price, worth, amounts, over, cost, cost_over_lem}

-- at every location ten-minute reserve is priced no lower than thirty-minute, and spinning no lower than ten-minute
pub record BetterNeverCheaper (m : Market) : Type 0 where
  pub ten_thirty : (shadow : List ℕ) (l : ℕ) → price m shadow ThirtyMinute l ≤ price m shadow TenMinute l
  pub spinning_ten : (shadow : List ℕ) (l : ℕ) → price m shadow TenMinute l ≤ price m shadow Spinning l

abbrev pub total : List ℤ → ℤ
total zs = sum_z (λ z. z) zs

-- what each supplier's schedule earns in one second
abbrev pub earned : Market → List ℕ → List ℕ → List Reserves → List ℤ
earned m shadow places rs = each (λ l r. worth m shadow l (amounts r)) places rs

-- and what it earns by differing from its day-ahead schedule
abbrev pub earned_over : Market → List ℕ → List ℕ → List Reserves → List Reserves → List ℤ
earned_over m shadow [] real ahead = []
earned_over m shadow (l ∷ places) [] ahead = []
earned_over m shadow (l ∷ places) (r ∷ real) [] = []
earned_over m shadow (l ∷ places) (r ∷ real) (a ∷ ahead) = worth m shadow l (over r a) ∷ earned_over m shadow places real ahead

-- what all suppliers earn is what the requirements cost
pub record CostIsEarned (m : Market) : Type 0 where
  pub scheduled : (shadow places : List ℕ) (rs : List Reserves) → total (earned m shadow places rs) ≡ cost m shadow places rs
  pub differing : (shadow places : List ℕ) (real ahead : List Reserves) → length real ≡ length places → length ahead ≡ length places
      → total (earned_over m shadow places real ahead) ≡ cost_over_lem m shadow places real ahead
