-- Shares as a loop gives them, and their sum as a loop adds it.
use Rattle.std.proofs.Common.{◌≡◌, ℕ, ◌+◌, ◌-◌, ◌*◌, ◌^◌, ◌<◌, ◌≤◌, min, List, [], ◌∷◌, ◌++◌, length, get_or, take, replicate, ℤ, pos, ◌+ℤ◌, nat_abs, sum, sym, ap, ◌∙◌, inl, inr, arith, w64, SFits, to_z, of_z}
use mir.Syntax.{w128}
use Rattle.std.proofs.lemmas.List.{take_all, take_more, length-take-le, length-take}
use Rattle.std.proofs.lemmas.Int.{ints, to_z-of_z}
use Rattle.std.proofs.lemmas.List.Sums.{sum_by-cons, sum_by_more}
use Rattle.std.proofs.lemmas.Bool.{cases_lt}
use Rattle.sums.proofs.SumLaws.{sum_append}
use Rattle.sharing.specs.Rule.{Rule, Fair, most_parts}
use Rattle.sharing.specs.Shares.{shares, total}
use Rattle.sharing.specs.SharedOut.{most_shares}
use Rattle.sharing.proofs.Law.{length_shares, none_shared}

-- the first n elements of a list that may have fewer
pub take_first : {X : Type 0} (n k : ℕ) (xs : List X) → k ≡ min (length xs) n → take (k - 0) xs ≡ take n xs
take_first n k xs e = elim (cases_lt n (length xs)) [
  | inl h ↦ (let f : k - 0 ≡ n = omega arith in ap (λ (m : ℕ). take m xs) f)
  | inr h ↦ take_all (k - 0) xs (omega arith) ∙ sym (take_all n xs h)
]

pub few_first : {X : Type 0} (n : ℕ) (xs ys : List X) → ys ≡ take n xs → length ys ≤ n
few_first n xs ys e = omega (arith, ap length e, length-take n xs)

-- ---- the shares, one by one
shares_push : (r : Rule) (T : ℤ) (B W : ℕ) (ws : List ℕ) (w : ℕ) → shares r T B W (ws ++ w ∷ []) ≡ shares r T B W ws ++ r T (B + sum ws) w W ∷ []
shares_push r T B W [] w = let e : B ≡ B + 0 = omega arith in ap (λ (n : ℕ). r T n w W ∷ []) e
shares_push r T B W (x ∷ ws) w =
    let c = sum_by-cons (λ x. x) x ws in
    let e : (B + x) + sum ws ≡ B + sum (x ∷ ws) = omega arith in
    ap (λ (zs : List ℤ). r T B x W ∷ zs) (shares_push r T (B + x) W ws w ∙ ap (λ (n : ℕ). shares r T (B + x) W ws ++ r T n w W ∷ []) e)

-- one more part, as the loop over the parts takes it
pub shares_more : (r : Rule) (T : ℤ) (W : ℕ) (ws : List ℕ) (i : ℕ) (zs : List ℤ) (b w : ℕ) (s : ℤ) → i < length ws
    → b ≡ sum (take i ws) → w ≡ get_or ws i 0 → s ≡ r T b w W → zs ≡ shares r T 0 W (take i ws)
    → (b + w ≡ sum (take (i + 1) ws)) × (zs ++ s ∷ [] ≡ shares r T 0 W (take (i + 1) ws))
shares_more r T W ws i zs b w s h eb ew es ez =
    let e : 0 + sum (take i ws) ≡ b = omega arith in
    let one : s ≡ r T (0 + sum (take i ws)) (get_or ws i 0) W = es ∙ ap (λ (n : ℕ). r T n w W) (sym e) ∙ ap (λ (n : ℕ). r T (0 + sum (take i ws)) n W) ew in (
      omega (arith, sum_by_more (λ x. x) ws i 0 h),
      ap (λ (l : List ℤ). l ++ s ∷ []) ez
          ∙ ap (λ (z : ℤ). shares r T 0 W (take i ws) ++ z ∷ []) one
          ∙ sym (shares_push r T 0 W (take i ws) (get_or ws i 0))
          ∙ ap (shares r T 0 W) (sym (take_more ws i 0 h)),
    )

-- there is room for one more share
pub room_for : (r : Rule) (T : ℤ) (W : ℕ) (ws : List ℕ) (i : ℕ) (zs : List ℤ) → i < length ws → length ws ≤ most_shares → zs ≡ shares r T 0 W (take i ws) → length zs < most_shares
room_for r T W ws i zs h k e = omega (arith, ap length e, length_shares r T 0 W (take i ws), length-take-le i ws (omega arith))

-- nothing is shared among parts that are too much together
pub shares_none : (r : Rule) → Fair r → (T : ℤ) (W : ℕ) (ws : List ℕ) → most_parts < W → shares r T 0 W ws ≡ replicate (length ws) (pos 0)
shares_none r fair T W ws h = none_shared r fair T 0 W ws (λ g. let m = g.not_too_much in omega arith)

-- ---- the sum of the shares
pub sum_more : (zs : List ℤ) (i : ℕ) → i < length zs → total (take (i + 1) zs) ≡ total (take i zs) +ℤ get_or zs i (pos 0)
sum_more zs i h =
    ap total (take_more zs i (pos 0) h)
    ∙ sum_append (λ z. z) (take i zs) (get_or zs i (pos 0) ∷ [])
    ∙ lin (total (take i zs)) (get_or zs i (pos 0))
  where
    lin : (x y : ℤ) → x +ℤ (y +ℤ pos 0) ≡ x +ℤ y
    lin x y = omega (arith, ints)

-- one more share, as the code widens and adds it
pub sum_step : (x y s s' : ℤ) (i n : ℕ) → SFits w64 y → x ≡ s → nat_abs x ≤ i * 2 ^ 63 → i < n → n ≤ most_shares → s' ≡ s +ℤ y
    → (to_z w128 (of_z w128 (x +ℤ to_z w128 (of_z w128 (to_z w64 (of_z w64 y))))) ≡ s') × (nat_abs (to_z w128 (of_z w128 (x +ℤ to_z w128 (of_z w128 (to_z w64 (of_z w64 y)))))) ≤ (i + 1) * 2 ^ 63)
sum_step x y s s' i n f e b h k q =
    let f1 : SFits w128 y = omega (arith, ints) in
    let f2 : SFits w128 (x +ℤ y) = omega (arith, ints) in
    let l : nat_abs (x +ℤ y) ≤ (i + 1) * 2 ^ 63 = omega (arith, ints) in
    (simp to_z-of_z (ap (λ (z : ℤ). z +ℤ y) e ∙ sym q), simp to_z-of_z l)
