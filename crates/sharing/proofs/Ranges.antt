-- What the ranges of a rule bound: products, and shares rounded down.
use Rattle.std.proofs.Common.{◌≡◌, ℕ, ◌+◌, ◌*◌, ◌<◌, ◌≤◌, ℤ, pos, negsuc, ◌+ℤ◌, ◌*ℤ◌, neg_ℤ, ◌≤ℤ◌, ◌<ℤ◌, sym, refl, arith, w64, SFits}
use lib.IntN.{*ℤ_comm}
use borrow.Author.Differences.{ints}
use Rattle.sums.specs.Floor.{floor}
use Rattle.sums.proofs.Ring.{neg_r}
use Rattle.sums.proofs.Floors.{floor_at_most, floor_above, times_mono, times_cancel}
use Rattle.sharing.specs.Rule.{InRange, most_cents, most_parts}

abbrev pub Between : ℕ → ℤ → Type 0
Between n z = (neg_ℤ (pos n) ≤ℤ z) × (z ≤ℤ pos n)

between_times : (n w : ℕ) (z : ℤ) → Between n z → Between (w * n) (z *ℤ pos w)
between_times n w z h =
    let c = *ℤ_comm z (pos w) in
    let x : pos w *ℤ neg_ℤ (pos n) ≡ neg_ℤ (pos (w * n)) = neg_r (pos w) (pos n) in
    (le_by (sym x) c (times_mono w (neg_ℤ (pos n)) z h.0), le_by c refl (times_mono w z (pos n) h.1))
  where
    le_by : {a a' b b' : ℤ} → a ≡ a' → b ≡ b' → a' ≤ℤ b' → a ≤ℤ b
    le_by {a} {a'} {b} {b'} p q h = omega (arith, ints)

pub product_fits : (T : ℤ) (w W : ℕ) → InRange T W → w ≤ W → SFits w64 (T *ℤ pos w)
product_fits T w W r h = fits (T *ℤ pos w) w W r.not_too_much h (between_times most_cents w T (r.low, r.high))
  where
    fits : (y : ℤ) (w W : ℕ) → W ≤ most_parts → w ≤ W → Between (w * most_cents) y → SFits w64 y
    fits y w W m h b = omega (arith, ints)

-- a part of the cents is no further from 0 than the cents can be
pub floor_between : (T : ℤ) (w W : ℕ) → InRange T W → w ≤ W → Between most_cents (floor (T *ℤ pos w) W)
floor_between T w W r h =
    let f : ℤ = floor (T *ℤ pos w) W in
    let b = between_times most_cents w T (r.low, r.high) in
    let least = floor_at_most (T *ℤ pos w) W r.some in
    let most = floor_above (T *ℤ pos w) W r.some in
    let above = times_cancel W (negsuc most_cents) f (over (T *ℤ pos w) (pos W *ℤ f) w W h b.0 most) in
    let below = times_cancel W f (pos (most_cents + 1)) (under (T *ℤ pos w) (pos W *ℤ f) w W r.some h b.1 least) in
    ends f above below
  where
    over : (y p : ℤ) (w W : ℕ) → w ≤ W → neg_ℤ (pos (w * most_cents)) ≤ℤ y → y <ℤ (p +ℤ pos W) → (pos W *ℤ negsuc most_cents) <ℤ p
    over y p w W h a b = omega (arith, ints)

    under : (y p : ℤ) (w W : ℕ) → 0 < W → w ≤ W → y ≤ℤ pos (w * most_cents) → p ≤ℤ y → p <ℤ (pos W *ℤ pos (most_cents + 1))
    under y p w W s h a b = omega (arith, ints)

    ends : (f : ℤ) → negsuc most_cents <ℤ f → f <ℤ pos (most_cents + 1) → Between most_cents f
    ends f a b = (omega (arith, ints), omega (arith, ints))
