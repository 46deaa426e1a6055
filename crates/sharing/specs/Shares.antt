-- Whole cents shared among parts, the grains carried on, and the law of both.
use Rattle.std.specs.Prelude.{◌≡◌, ℕ, ◌+◌, ◌*◌, ◌<◌, ◌⊎◌, List, [], ◌∷◌, length, replicate, ℤ, pos, ◌+ℤ◌, ◌-ℤ◌, ◌*ℤ◌, neg_ℤ, ◌≤ℤ◌, ◌<ℤ◌, sum, slice_index, slice_index_or}
use Rattle.sums.specs.Floor.{floor, remainder}
use Rattle.sums.specs.Sums.{sum_z}
use Rattle.sharing.specs.Rule.{Rule, InRange}

-- a grain is a cent divided by so much
abbrev pub grains_per_cent : ℕ
grains_per_cent = 36000

-- the whole cents of G grains, and the grains that remain
abbrev pub whole : ℤ → ℤ
whole G = floor G grains_per_cent

abbrev pub rest : ℤ → ℕ
rest G = remainder G grains_per_cent

-- the shares of parts ws in order, where the parts before them sum to B
abbrev pub shares : Rule → (T : ℤ) (B W : ℕ) → List ℕ → List ℤ
shares r T B W [] = []
shares r T B W (w ∷ ws) = r T B w W ∷ shares r T (B + w) W ws

-- the shares of the whole cents of G grains among the parts ws
abbrev pub shared : Rule → (G : ℤ) → List ℕ → List ℤ
shared r G ws = shares r (whole G) 0 (sum ws) ws

abbrev pub total : List ℤ → ℤ
total zs = sum_z (λ z. z) zs

-- the grains that are carried on once zs cents of G grains are shared
abbrev pub new_carry : (G : ℤ) → List ℤ → ℤ
new_carry G zs = pos grains_per_cent *ℤ (whole G -ℤ total zs) +ℤ pos (rest G)

-- ---- the law
-- the least whole number that is at least x / W
abbrev pub ceiling : ℤ → ℕ → ℤ
ceiling x W = neg_ℤ (floor (neg_ℤ x) W)

-- z is the exact share T x w / W, rounded down or up
pub record Rounded (T : ℤ) (w W : ℕ) (z : ℤ) : Type 0 where
  pub not_under : (floor (T *ℤ pos w) W) ≤ℤ z
  pub not_over : (pos W *ℤ z) <ℤ (T *ℤ pos w +ℤ pos W)
  pub down_or_up : (z ≡ floor (T *ℤ pos w) W) ⊎ (z ≡ ceiling (T *ℤ pos w) W)

-- zs are good shares of the whole cents of G grains among the parts ws, with a good carry k
pub record WellShared (G : ℤ) (ws : List ℕ) (zs : List ℤ) (k : ℤ) : Type 0 where
  pub one_each : length zs ≡ length ws
  pub rounded : (i : ℕ) → i < length ws → Rounded (whole G) (slice_index ws i) (sum ws) (slice_index_or zs i (pos 0))
  pub not_over : (total zs) ≤ℤ (whole G)
  pub nearly_all : (whole G) <ℤ (total zs +ℤ pos (length ws))
  pub carry_not_negative : pos 0 ≤ℤ k
  pub carry_below : k <ℤ (pos (grains_per_cent * length ws))

pub record SharingLaw (r : Rule) : Type 0 where
  -- no part, no share
  pub none : (T : ℤ) (B W : ℕ) → r T B 0 W ≡ pos 0
  pub inside : (G : ℤ) (ws : List ℕ) → InRange (whole G) (sum ws) → WellShared G ws (shared r G ws) (new_carry G (shared r G ws))
  -- outside the ranges nothing is shared, and all is carried on
  pub outside : (G : ℤ) (ws : List ℕ) → (InRange (whole G) (sum ws) → ⊥) → (shared r G ws ≡ replicate (length ws) (pos 0)) × (new_carry G (shared r G ws) ≡ G)
  -- inside and outside no grain is lost or made
  pub kept : (G : ℤ) (ws : List ℕ) → pos grains_per_cent *ℤ total (shared r G ws) +ℤ new_carry G (shared r G ws) ≡ G
