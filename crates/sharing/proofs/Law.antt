-- The law of sharing.
use Rattle.std.proofs.Common.{◌≡◌, ℕ, zero, suc, ◌+◌, ◌*◌, ◌<◌, ◌≤◌, ◌⊎◌, List, [], ◌∷◌, length, get_or, replicate, ℤ, pos, ◌+ℤ◌, ◌-ℤ◌, ◌*ℤ◌, neg_ℤ, ◌≤ℤ◌, ◌<ℤ◌, sum, sym, refl, ap, ◌∙◌, inl, inr, arith}
use borrow.Author.Differences.{ints}
use Rattle.std.proofs.lemmas.List.Sums.{sum_by-cons}
use Rattle.std.proofs.lemmas.Int.{by_lt_z}
use Rattle.sums.specs.Floor.{floor}
use Rattle.sums.proofs.Ring.{distr_l, neg_r}
use Rattle.sums.proofs.Floors.{floor_divides_lem, floor_at_most, floor_above, times_mono, times_cancel}
use Rattle.sharing.specs.Rule.{Rule, InRange, Shareable, Fair}
use Rattle.sharing.specs.Shares.{grains_per_cent, whole, rest, shares, shared, total, new_carry, ceiling, Rounded, SharingLaw}
use Rattle.sharing.proofs.Totals.{times_one, floor_none, shared_most, shared_least}
use Rattle.sharing.specs.Rules.{cases_shareable}

pub length_shares : (r : Rule) (T : ℤ) (B W : ℕ) (ws : List ℕ) → length (shares r T B W ws) ≡ length ws
length_shares r T B W [] = refl
length_shares r T B W (w ∷ ws) = ap suc (length_shares r T (B + w) W ws)

-- ---- one share
-- a number from the floor on and less than one above the exact share is the floor or the ceiling
floor_or_ceiling : (x z : ℤ) (W : ℕ) → 0 < W → (floor x W) ≤ℤ z → (pos W *ℤ z) <ℤ (x +ℤ pos W) → (z ≡ floor x W) ⊎ (z ≡ ceiling x W)
floor_or_ceiling x z W some low high =
    let f : ℤ = floor x W in
    let n : ℤ = floor (neg_ℤ x) W in
    let c : ℤ = neg_ℤ n in
    let cx : pos W *ℤ c ≡ neg_ℤ (pos W *ℤ n) = neg_r (pos W) n in
    let a = floor_above x W some in
    let d = floor_at_most (neg_ℤ x) W some in
    let b = floor_above (neg_ℤ x) W some in
    -- z ≤ c, and c ≤ f + 1
    let up : z <ℤ (c +ℤ pos 1) = times_cancel W z (c +ℤ pos 1) (under x (pos W *ℤ z) (pos W *ℤ n) (pos W *ℤ (c +ℤ pos 1)) W (next c ∙ ap (λ (y : ℤ). y +ℤ pos W) cx) high d) in
    let near : c <ℤ (f +ℤ pos 1 +ℤ pos 1) = times_cancel W c (f +ℤ pos 1 +ℤ pos 1) (over x (pos W *ℤ f) (pos W *ℤ n) _ _ W cx (next (f +ℤ pos 1) ∙ ap (λ (y : ℤ). y +ℤ pos W) (next f)) a b) in
    by_lt_z f z (λ l. inr (same_up f z c l up near)) (λ l. inl (same f z low l))
  where
    next : (y : ℤ) → pos W *ℤ (y +ℤ pos 1) ≡ pos W *ℤ y +ℤ pos W
    next y = distr_l (pos W) y (pos 1) ∙ ap (λ (q : ℤ). pos W *ℤ y +ℤ q) (times_one W)

    under : (x p n q : ℤ) (W : ℕ) → q ≡ neg_ℤ n +ℤ pos W → p <ℤ (x +ℤ pos W) → n ≤ℤ (neg_ℤ x) → p <ℤ q
    under x p n q W e h k = omega (arith, ints)

    over : (x f n p q : ℤ) (W : ℕ) → p ≡ neg_ℤ n → q ≡ (f +ℤ pos W) +ℤ pos W → x <ℤ (f +ℤ pos W) → (neg_ℤ x) <ℤ (n +ℤ pos W) → p <ℤ q
    over x f n p q W e d h k = omega (arith, ints)

    same : (f z : ℤ) → f ≤ℤ z → z ≤ℤ f → z ≡ f
    same f z h k = omega (arith, ints)

    same_up : (f z c : ℤ) → f <ℤ z → z <ℤ (c +ℤ pos 1) → c <ℤ (f +ℤ pos 1 +ℤ pos 1) → z ≡ c
    same_up f z c h k l = omega (arith, ints)

module _ (r : Rule) (fair : Fair r) where
  rounded_one : (T : ℤ) (B w W : ℕ) → Shareable T B w W → Rounded T w W (r T B w W)
  rounded_one T B w W s =
      let z : ℤ = r T B w W in
      let some = s.ranged.some in
      let low = fair.not_under T B w W s in
      let f : ℤ = floor (T *ℤ pos (B + w)) W in
      let g : ℤ = floor (T *ℤ pos B) W in
      let p : (pos W *ℤ z) ≤ℤ (pos W *ℤ (f -ℤ g)) = times_mono W _ _ (fair.not_over T B w W s) in
      let e : pos W *ℤ (f -ℤ g) +ℤ pos W *ℤ g ≡ pos W *ℤ f = sym (distr_l (pos W) (f -ℤ g) g) ∙ ap (λ (y : ℤ). pos W *ℤ y) (back f g) in
      let high : (pos W *ℤ z) <ℤ (T *ℤ pos w +ℤ pos W) = lin (T *ℤ pos B) (T *ℤ pos w) _ (pos W *ℤ z) (pos W *ℤ (f -ℤ g)) (pos W *ℤ f) (pos W *ℤ g) (pos W) (distr_l T (pos B) (pos w)) p e (floor_at_most (T *ℤ pos (B + w)) W some) (floor_above (T *ℤ pos B) W some) in
      record { not_under = low; not_over = high; down_or_up = floor_or_ceiling (T *ℤ pos w) z W some low high }
    where
      back : (f g : ℤ) → (f -ℤ g) +ℤ g ≡ f
      back f g = omega (arith, ints)

      lin : (tb tw t z d f g a : ℤ) → t ≡ tb +ℤ tw → z ≤ℤ d → d +ℤ g ≡ f → f ≤ℤ t → tb <ℤ (g +ℤ a) → z <ℤ (tw +ℤ a)
      lin tb tw t z d f g a e h k l m = omega (arith, ints)

  rounded_all : (T : ℤ) (B W : ℕ) (ws : List ℕ) → InRange T W → B + sum ws ≤ W → (i : ℕ) → i < length ws → Rounded T (get_or ws i 0) W (get_or (shares r T B W ws) i (pos 0))
  rounded_all T B W [] g h i l = absurd (omega arith)
  rounded_all T B W (w ∷ ws) g h zero l = rounded_one T B w W (record { ranged = g; within = let k = sum_by-cons (λ x. x) w ws in omega arith })
  rounded_all T B W (w ∷ ws) g h (suc i) l = rounded_all T (B + w) W ws g (let k = sum_by-cons (λ x. x) w ws in omega arith) i (omega arith)

  pub none_shared : (T : ℤ) (B W : ℕ) (ws : List ℕ) → (InRange T W → ⊥) → shares r T B W ws ≡ replicate (length ws) (pos 0)
  none_shared T B W [] out = refl
  none_shared T B W (w ∷ ws) out = cc (fair.outside T B w W (λ s. out s.ranged), none_shared T (B + w) W ws out)

  -- a part of nothing has no share
  nothing : (T : ℤ) (B W : ℕ) → r T B 0 W ≡ pos 0
  nothing T B W = elim (cases_shareable T B 0 W) [
    | inl s ↦ (
        let e : B + 0 ≡ B = omega arith in
        same _ _ _ _ (floor_none T W) (ap (λ (n : ℕ). floor (T *ℤ pos n) W) e) (fair.not_under T B 0 W s) (fair.not_over T B 0 W s))
    | inr out ↦ fair.outside T B 0 W out
  ]
    where
      same : (z f x y : ℤ) → f ≡ pos 0 → x ≡ y → f ≤ℤ z → z ≤ℤ (x -ℤ y) → z ≡ pos 0
      same z f x y e d h k = omega (arith, ints)

-- ---- the carry
-- what is shared and what is carried on is all there was
pub kept : (G : ℤ) (zs : List ℤ) → pos grains_per_cent *ℤ total zs +ℤ new_carry G zs ≡ G
kept G zs = lin G (whole G) (total zs) (rest G) (floor_divides_lem G grains_per_cent (omega arith)).0
  where
    lin : (g t s : ℤ) (n : ℕ) → pos grains_per_cent *ℤ t +ℤ pos n ≡ g → pos grains_per_cent *ℤ s +ℤ (pos grains_per_cent *ℤ (t -ℤ s) +ℤ pos n) ≡ g
    lin g t s n e = omega (arith, ints)

carry_range : (t s : ℤ) (g n : ℕ) → g < grains_per_cent → s ≤ℤ t → t <ℤ (s +ℤ pos n)
    → (pos 0 ≤ℤ (pos grains_per_cent *ℤ (t -ℤ s) +ℤ pos g)) × ((pos grains_per_cent *ℤ (t -ℤ s) +ℤ pos g) <ℤ (pos (grains_per_cent * n)))
carry_range t s g n p h k = (omega (arith, ints), omega (arith, ints))

pub total_none : (n : ℕ) → total (replicate n (pos 0)) ≡ pos 0
total_none zero = refl
total_none (suc n) = omega (arith, ints, total_none n)

pub carry_none : (G : ℤ) (zs : List ℤ) → total zs ≡ pos 0 → new_carry G zs ≡ G
carry_none G zs e = lin G (total zs) (new_carry G zs) e (kept G zs)
  where
    lin : (g s k : ℤ) → s ≡ pos 0 → pos grains_per_cent *ℤ s +ℤ k ≡ g → k ≡ g
    lin g s k e h = omega (arith, ints)

-- ---- together
pub sharing_law : (r : Rule) → Fair r → SharingLaw r
sharing_law r fair = record {
  none = nothing r fair;
  inside = λ G ws g.
      let high = shared_most r fair (whole G) (sum ws) g ws refl in
      let low = shared_least r fair (whole G) (sum ws) g ws refl in
      let c = carry_range (whole G) (total (shared r G ws)) (rest G) (length ws) (floor_divides_lem G grains_per_cent (omega arith)).1 high low in
      record {
        one_each = length_shares r (whole G) 0 (sum ws) ws;
        rounded = rounded_all r fair (whole G) 0 (sum ws) ws g (omega arith);
        not_over = high;
        nearly_all = low;
        carry_not_negative = c.0;
        carry_below = c.1;
      };
  outside = λ G ws out.
      let e = none_shared r fair (whole G) 0 (sum ws) ws out in
      (e, carry_none G (shared r G ws) (ap total e ∙ total_none (length ws)));
  kept = λ G ws. kept G (shared r G ws);
}
