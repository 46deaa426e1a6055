-- What the law of a rule gives of all shares together.
use Rattle.std.proofs.Common.{◌≡◌, ℕ, ◌+◌, ◌<◌, ◌≤◌, List, [], ◌∷◌, length, ℤ, pos, ◌+ℤ◌, ◌-ℤ◌, ◌*ℤ◌, ◌≤ℤ◌, ◌<ℤ◌, sum, sym, refl, ap, ◌∙◌, arith}
use lib.IntN.{*ℤ-zero, *ℤ_comm}
use borrow.Author.Differences.{ints}
use Rattle.std.proofs.lemmas.List.Sums.{sum_by-cons}
use Rattle.sums.specs.Floor.{floor}
use Rattle.sums.proofs.Ring.{distr_l}
use Rattle.sums.proofs.Floors.{floor_above, floor_exact, times_mono, times_cancel}
use Rattle.sharing.specs.Rule.{Rule, InRange, Shareable, Fair}
use Rattle.sharing.specs.Shares.{shares, total}

sum_cons : (w : ℕ) (ws : List ℕ) → sum (w ∷ ws) ≡ w + sum ws
sum_cons w ws = sum_by-cons (λ x. x) w ws

pub times_one : (w : ℕ) → pos w *ℤ pos 1 ≡ pos w
times_one w = omega (arith, ints)

le_by : {a a' b b' : ℤ} → a ≡ a' → b ≡ b' → a' ≤ℤ b' → a ≤ℤ b
le_by {a} {a'} {b} {b'} p q h = omega (arith, ints)

-- the share of no part, and of all
pub floor_none : (T : ℤ) (W : ℕ) → floor (T *ℤ pos 0) W ≡ pos 0
floor_none T W = ap (λ (y : ℤ). floor y W) (*ℤ-zero T) ∙ ap pos (omega arith)

module _ (r : Rule) (fair : Fair r) (T : ℤ) (W : ℕ) (ranged : InRange T W) where
  abbrev shareable : (B w : ℕ) → B + w ≤ W → Shareable T B w W
  shareable B w h = record { ranged = ranged; within = h }

  -- the shares of some parts are at most what these add to the rounded share of those before
  most : (B : ℕ) (ws : List ℕ) → B + sum ws ≤ W → (total (shares r T B W ws)) ≤ℤ (floor (T *ℤ pos (B + sum ws)) W -ℤ floor (T *ℤ pos B) W)
  most B [] h =
      let e : B + 0 ≡ B = omega arith in
      zero_le _ _ (ap (λ (n : ℕ). floor (T *ℤ pos n) W) e)
    where
      zero_le : (x y : ℤ) → x ≡ y → pos 0 ≤ℤ (x -ℤ y)
      zero_le x y e = omega (arith, ints)
  most B (w ∷ ws) h =
      let k = sum_cons w ws in
      let e : (B + w) + sum ws ≡ B + sum (w ∷ ws) = omega arith in
      let one = fair.not_over T B w W (shareable B w (omega arith)) in
      let others = most (B + w) ws (omega arith) in
      lin _ _ (floor (T *ℤ pos B) W) (floor (T *ℤ pos (B + w)) W) (floor (T *ℤ pos ((B + w) + sum ws)) W) (floor (T *ℤ pos (B + sum (w ∷ ws))) W) one others (ap (λ (n : ℕ). floor (T *ℤ pos n) W) e)
    where
      lin : (s q a0 a1 a2 a3 : ℤ) → s ≤ℤ (a1 -ℤ a0) → q ≤ℤ (a2 -ℤ a1) → a2 ≡ a3 → (s +ℤ q) ≤ℤ (a3 -ℤ a0)
      lin s q a0 a1 a2 a3 h k e = omega (arith, ints)

  -- each share is above its exact share less one cent, so n of them are above theirs less n cents
  least : (B : ℕ) (ws : List ℕ) → B + sum ws ≤ W → (T *ℤ pos (sum ws) +ℤ pos (length ws)) ≤ℤ (pos W *ℤ (total (shares r T B W ws) +ℤ pos (length ws)))
  least B [] h = le_by (ap (λ (z : ℤ). z +ℤ pos 0) (*ℤ-zero T)) (*ℤ-zero (pos W)) (omega (arith, ints))
  least B (w ∷ ws) h =
      let k = sum_cons w ws in
      let m : ℕ = sum ws in
      let a : ℤ = pos W in
      let n : ℤ = pos (length ws) in
      let s : ℤ = r T B w W in
      let q : ℤ = total (shares r T (B + w) W ws) in
      let under : (floor (T *ℤ pos w) W) ≤ℤ s = fair.not_under T B w W (shareable B w (omega arith)) in
      let one : (T *ℤ pos w) <ℤ (a *ℤ s +ℤ a) = lt_le (T *ℤ pos w) (a *ℤ floor (T *ℤ pos w) W) (a *ℤ s) a (floor_above (T *ℤ pos w) W ranged.some) (times_mono W _ _ under) in
      let others : (T *ℤ pos m +ℤ n) ≤ℤ (a *ℤ q +ℤ a *ℤ n) = le_by refl (sym (distr_l a q n)) (least (B + w) ws (omega arith)) in
      let left : T *ℤ pos (sum (w ∷ ws)) ≡ T *ℤ pos w +ℤ T *ℤ pos m = ap (λ (z : ℕ). T *ℤ pos z) k ∙ distr_l T (pos w) (pos m) in
      let right : a *ℤ ((s +ℤ q) +ℤ (n +ℤ pos 1)) ≡ (a *ℤ s +ℤ a *ℤ q) +ℤ (a *ℤ n +ℤ a) =
      distr_l a (s +ℤ q) (n +ℤ pos 1) ∙ cc (distr_l a s q, distr_l a n (pos 1), times_one W) in
      let ln : pos (length (w ∷ ws)) ≡ n +ℤ pos 1 = ap pos (omega arith) in
      le_by (cc (left, ln)) (cc (right, ln)) (lin (T *ℤ pos w) (T *ℤ pos m) (a *ℤ s) (a *ℤ q) (a *ℤ n) a n one others)
    where
      lt_le : (x f s a : ℤ) → x <ℤ (f +ℤ a) → f ≤ℤ s → x <ℤ (s +ℤ a)
      lt_le x f s a p q = omega (arith, ints)

      lin : (tw tx q1 q2 q3 a n : ℤ) → tw <ℤ (q1 +ℤ a) → (tx +ℤ n) ≤ℤ (q2 +ℤ q3) → ((tw +ℤ tx) +ℤ (n +ℤ pos 1)) ≤ℤ ((q1 +ℤ q2) +ℤ (q3 +ℤ a))
      lin tw tx q1 q2 q3 a n h k = omega (arith, ints)

  -- no more than all is shared
  pub shared_most : (ws : List ℕ) → sum ws ≡ W → (total (shares r T 0 W ws)) ≤ℤ T
  shared_most ws e =
      let z : 0 + sum ws ≡ W = omega arith in
      let p : floor (T *ℤ pos (0 + sum ws)) W ≡ T = ap (λ (n : ℕ). floor (T *ℤ pos n) W) z ∙ floor_exact T W ranged.some in
      lin _ (floor (T *ℤ pos (0 + sum ws)) W) (floor (T *ℤ pos 0) W) T (most 0 ws (omega arith)) p (floor_none T W)
    where
      lin : (s x y t : ℤ) → s ≤ℤ (x -ℤ y) → x ≡ t → y ≡ pos 0 → s ≤ℤ t
      lin s x y t h p q = omega (arith, ints)

  -- and less than one cent for each part is not
  pub shared_least : (ws : List ℕ) → sum ws ≡ W → T <ℤ (total (shares r T 0 W ws) +ℤ pos (length ws))
  shared_least ws e =
      let h = least 0 ws (omega arith) in
      let c : T *ℤ pos (sum ws) ≡ pos W *ℤ T = ap (λ (n : ℕ). T *ℤ pos n) e ∙ *ℤ_comm T (pos W) in
      times_cancel W T _ (lin (T *ℤ pos (sum ws)) _ _ (length ws) (not_none ws e) h c)
    where
      not_none : (ws : List ℕ) → sum ws ≡ W → 0 < length ws
      not_none [] e = let s = ranged.some in absurd (omega arith)
      not_none (w ∷ ws) e = omega arith

      lin : (x y z : ℤ) (n : ℕ) → 0 < n → (x +ℤ pos n) ≤ℤ y → x ≡ z → z <ℤ y
      lin x y z n p h e = omega (arith, ints)
