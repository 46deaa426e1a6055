-- Sharing rules, and the law that every rule keeps.
use Rattle.std.specs.Prelude.{◌≡◌, ℕ, ◌+◌, ◌<◌, ◌≤◌, Bool, ◌&&◌, ℤ, pos, ◌-ℤ◌, ◌*ℤ◌, neg_ℤ, ◌≤ℤ◌, int_le, nat_le, nat_lt}
use Rattle.sums.specs.Floor.{floor}
use Rattle.sums.specs.Sums.{when_z}

-- the share of a part w, where T whole cents are shared, the parts before it sum to B, and all parts to W
abbrev pub Rule : Type 0
Rule = (T : ℤ) (B w W : ℕ) → ℤ

-- ---- the ranges
-- the largest sum of all parts
abbrev pub most_parts : ℕ
most_parts = 500000

-- the most cents, above and below 0
abbrev pub most_cents : ℕ
most_cents = 9000000000000

-- how much can be shared, and among how much
pub record InRange (T : ℤ) (W : ℕ) : Type 0 where
  pub some : 0 < W
  pub not_too_much : W ≤ most_parts
  pub low : neg_ℤ (pos most_cents) ≤ℤ T
  pub high : T ≤ℤ pos most_cents

pub record Shareable (T : ℤ) (B w W : ℕ) : Type 0 where
  pub ranged : InRange T W
  pub within : B + w ≤ W

-- the same as tests
abbrev pub in_range_lem : ℤ → ℕ → Bool
in_range_lem T W = nat_lt 0 W && (nat_le W most_parts && (int_le (neg_ℤ (pos most_cents)) T && int_le T (pos most_cents)))

abbrev pub shareable : ℤ → ℕ → ℕ → ℕ → Bool
shareable T B w W = in_range_lem T W && nat_le (B + w) W

-- ---- the law
-- at least the exact share rounded down, at most what the part adds to the rounded share of the parts before it,
-- and nothing outside the ranges
pub record Fair (r : Rule) : Type 0 where
  pub not_under : (T : ℤ) (B w W : ℕ) → Shareable T B w W → (floor (T *ℤ pos w) W) ≤ℤ (r T B w W)
  pub not_over : (T : ℤ) (B w W : ℕ) → Shareable T B w W → (r T B w W) ≤ℤ (floor (T *ℤ pos (B + w)) W -ℤ floor (T *ℤ pos B) W)
  pub outside : (T : ℤ) (B w W : ℕ) → (Shareable T B w W → ⊥) → r T B w W ≡ pos 0

-- ---- the two ends of the law
abbrev pub down : Rule
down T B w W = when_z (shareable T B w W) (floor (T *ℤ pos w) W)

abbrev pub running : Rule
running T B w W = when_z (shareable T B w W) (floor (T *ℤ pos (B + w)) W -ℤ floor (T *ℤ pos B) W)
