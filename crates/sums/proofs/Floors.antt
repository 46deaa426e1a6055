-- Laws of floor division.
use Rattle.std.proofs.Common.{◌≡◌, ℕ, ◌+◌, ◌*◌, ◌<◌, ◌≤◌, ℤ, pos, negsuc, ◌+ℤ◌, ◌*ℤ◌, ◌≤ℤ◌, ◌<ℤ◌, ap, ◌∙◌, mul-le-mul_left, arith}
use lib.IntN.{*ℤ_comm}
use lib.Signed.{clash_ℤ}
use borrow.Author.Differences.{ints, up, down}
use Rattle.std.proofs.lemmas.Int.{by_lt_z}
use Rattle.sums.specs.Floor.{floor}
use Rattle.sums.specs.Laws.{FloorDivides}
use Rattle.sums.proofs.Ring.{distr_l}

pub floor_divides_lem : FloorDivides
floor_divides_lem (pos n) w h = (omega (arith, ints), omega arith)
floor_divides_lem (negsuc n) w h = (omega (arith, ints), omega arith)

pub floor_at_most : (x : ℤ) (w : ℕ) → 0 < w → (pos w *ℤ floor x w) ≤ℤ x
floor_at_most (pos n) w h = omega (arith, ints)
floor_at_most (negsuc n) w h = omega (arith, ints)

pub floor_above : (x : ℤ) (w : ℕ) → 0 < w → x <ℤ (pos w *ℤ floor x w +ℤ pos w)
floor_above (pos n) w h = omega (arith, ints)
floor_above (negsuc n) w h = omega (arith, ints)

pub times_mono : (w : ℕ) (a b : ℤ) → a ≤ℤ b → (pos w *ℤ a) ≤ℤ (pos w *ℤ b)
times_mono w a b h =
    let k : up a + down b ≤ up b + down a = omega (arith, ints) in
    let l : w * (up a + down b) ≤ w * (up b + down a) = mul-le-mul_left w k in
    omega (arith, ints)

-- a factor above 0 can be left out
pub times_cancel : (w : ℕ) (a b : ℤ) → (pos w *ℤ a) <ℤ (pos w *ℤ b) → a <ℤ b
times_cancel w a b h = by_lt_z a b (λ k. k) (λ k. clash_ℤ h (times_mono w b a k))

times_one : (w : ℕ) → pos w *ℤ pos 1 ≡ pos w
times_one w = omega (arith, ints)

pub floor_exact : (t : ℤ) (w : ℕ) → 0 < w → floor (t *ℤ pos w) w ≡ t
floor_exact t w h =
    let f : ℤ = floor (t *ℤ pos w) w in
    let c : t *ℤ pos w ≡ pos w *ℤ t = *ℤ_comm t (pos w) in
    let above : t <ℤ (f +ℤ pos 1) = times_cancel w t (f +ℤ pos 1) (lt_by c (distr_l (pos w) f (pos 1) ∙ ap (λ (z : ℤ). pos w *ℤ f +ℤ z) (times_one w)) (floor_above (t *ℤ pos w) w h)) in
    let below : f <ℤ (t +ℤ pos 1) = times_cancel w f (t +ℤ pos 1) (lt_le h (floor_at_most (t *ℤ pos w) w h) c (distr_l (pos w) t (pos 1) ∙ ap (λ (z : ℤ). pos w *ℤ t +ℤ z) (times_one w))) in
    same f t above below
  where
    lt_by : {a a' b b' : ℤ} → a ≡ a' → b ≡ b' → a <ℤ b' → a' <ℤ b
    lt_by {a} {a'} {b} {b'} p q h = omega (arith, ints)

    lt_le : {w : ℕ} {f a b c : ℤ} → 0 < w → f ≤ℤ a → a ≡ b → c ≡ b +ℤ pos w → f <ℤ c
    lt_le {w} {f} {a} {b} {c} h p q e = omega (arith, ints)

    same : (f t : ℤ) → t <ℤ (f +ℤ pos 1) → f <ℤ (t +ℤ pos 1) → f ≡ t
    same f t p q = omega (arith, ints)

-- floor a + floor b ≤ floor (a + b)
pub floor_super : (a b : ℤ) (w : ℕ) → 0 < w → (floor a w +ℤ floor b w) ≤ℤ (floor (a +ℤ b) w)
floor_super a b w h =
    let x : ℤ = floor a w in
    let y : ℤ = floor b w in
    let z : ℤ = floor (a +ℤ b) w in
    let d : pos w *ℤ (x +ℤ y) ≡ pos w *ℤ x +ℤ pos w *ℤ y = distr_l (pos w) x y in
    let e : pos w *ℤ (z +ℤ pos 1) ≡ pos w *ℤ z +ℤ pos w = distr_l (pos w) z (pos 1) ∙ ap (λ (q : ℤ). pos w *ℤ z +ℤ q) (times_one w) in
    le_of (x +ℤ y) z (times_cancel w (x +ℤ y) (z +ℤ pos 1) (lin _ _ (pos w *ℤ x) (pos w *ℤ y) (pos w *ℤ z) (pos w) a b d e (floor_at_most a w h) (floor_at_most b w h) (floor_above (a +ℤ b) w h)))
  where
    le_of : (x z : ℤ) → x <ℤ (z +ℤ pos 1) → x ≤ℤ z
    le_of x z h = omega (arith, ints)

    lin : (l r x y z w a b : ℤ) → l ≡ x +ℤ y → r ≡ z +ℤ w → x ≤ℤ a → y ≤ℤ b → (a +ℤ b) <ℤ (z +ℤ w) → l <ℤ r
    lin l r x y z w a b d e p q h = omega (arith, ints)
