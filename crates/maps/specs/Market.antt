-- What a location map tells, and the law that every map keeps.
use Rattle.std.specs.Prelude.{◌≡◌, ℕ, ◌<◌, ◌≤◌, Bool, true}
use Rattle.maps.specs.declared.product.Product.{Product}
use Rattle.maps.specs.declared.product.Product.TheVariants.{ThirtyMinute, TenMinute, Spinning}

-- the quality of a product, the lowest first; it is also its number
abbrev pub quality_of : Product → ℕ
quality_of ThirtyMinute = 0
quality_of TenMinute = 1
quality_of Spinning = 2

-- how many requirements and locations there are, and whether a product at a location counts toward a requirement
pub record Market : Type 0 where
  pub requirements : ℕ
  pub locations : ℕ
  pub counts : ℕ → Product → ℕ → Bool

pub record MapLaw (m : Market) : Type 0 where
  pub some_requirement : 1 ≤ m.requirements
  pub few_requirements : m.requirements ≤ 32
  pub some_location : 1 ≤ m.locations
  pub few_locations : m.locations ≤ 16
  -- beyond the counts the reply is no
  pub within : (k : ℕ) (p : Product) (l : ℕ) → m.counts k p l ≡ true → (k < m.requirements) × (l < m.locations)
  -- better reserve counts wherever worse does
  pub ten_for_thirty : (k l : ℕ) → m.counts k ThirtyMinute l ≡ true → m.counts k TenMinute l ≡ true
  pub spinning_for_ten : (k l : ℕ) → m.counts k TenMinute l ≡ true → m.counts k Spinning l ≡ true

-- two maps that reply alike to every question
pub record SameMarket (m n : Market) : Type 0 where
  pub requirements : m.requirements ≡ n.requirements
  pub locations : m.locations ≡ n.locations
  pub counts : (k : ℕ) (p : Product) (l : ℕ) → m.counts k p l ≡ n.counts k p l
