-- The down rule and the running rule are the ends, and the running rule leaves nothing.
use Rattle.std.proofs.Common.{◌≡◌, ℕ, ◌+◌, ◌≤◌, List, [], ◌∷◌, ℤ, pos, ◌+ℤ◌, ◌-ℤ◌, ◌*ℤ◌, sum, ap, ◌∙◌, inl, inr, arith}
use lib.Signed.{≤ℤ_refl}
use borrow.Author.Differences.{ints}
use Rattle.std.proofs.lemmas.List.Sums.{sum_by-cons}
use Rattle.sums.specs.Floor.{floor}
use Rattle.sums.proofs.Floors.{floor_exact}
use Rattle.sharing.specs.Rule.{Rule, InRange, Shareable, Fair, running}
use Rattle.sharing.specs.Shares.{grains_per_cent, whole, rest, shares, shared, total}
use Rattle.sharing.specs.Ends.{BetweenTheEnds, RunningSharesAll}
use Rattle.sharing.specs.Rules.{shareable_true, not_shareable, cases_shareable}
use Rattle.sharing.proofs.Totals.{floor_none}

pub between_the_ends : (r : Rule) → Fair r → BetweenTheEnds r
between_the_ends r fair = record {
  least = λ T B w W. elim (cases_shareable T B w W) [
    | inl s ↦ rw (shareable_true T B w W s) (fair.not_under T B w W s)
    | inr out ↦ rw (not_shareable T B w W out, fair.outside T B w W out) (≤ℤ_refl _)
  ];
  most = λ T B w W. elim (cases_shareable T B w W) [
    | inl s ↦ rw (shareable_true T B w W s) (fair.not_over T B w W s)
    | inr out ↦ rw (not_shareable T B w W out, fair.outside T B w W out) (≤ℤ_refl _)
  ];
}

-- the running shares of some parts are what these add to the rounded share of those before
running_sum : (T : ℤ) (W : ℕ) → InRange T W → (B : ℕ) (ws : List ℕ) → B + sum ws ≤ W → total (shares running T B W ws) +ℤ floor (T *ℤ pos B) W ≡ floor (T *ℤ pos (B + sum ws)) W
running_sum T W g B [] h =
    let e : B ≡ B + 0 = omega arith in
    lin (floor (T *ℤ pos B) W) ∙ ap (λ (n : ℕ). floor (T *ℤ pos n) W) e
  where
    lin : (x : ℤ) → pos 0 +ℤ x ≡ x
    lin x = omega (arith, ints)
running_sum T W g B (w ∷ ws) h =
    let k = sum_by-cons (λ x. x) w ws in
    let e : (B + w) + sum ws ≡ B + sum (w ∷ ws) = omega arith in
    let s : Shareable T B w W = record { ranged = g; within = omega arith } in
    let one : running T B w W ≡ floor (T *ℤ pos (B + w)) W -ℤ floor (T *ℤ pos B) W = rw (shareable_true T B w W s) in
    lin (running T B w W) (total (shares running T (B + w) W ws)) _ _ _ one (running_sum T W g (B + w) ws (omega arith)) ∙ ap (λ (n : ℕ). floor (T *ℤ pos n) W) e
  where
    lin : (z q a b c : ℤ) → z ≡ b -ℤ a → q +ℤ b ≡ c → (z +ℤ q) +ℤ a ≡ c
    lin z q a b c e h = omega (arith, ints)

running_all : (G : ℤ) (ws : List ℕ) → InRange (whole G) (sum ws) → total (shared running G ws) ≡ whole G
running_all G ws g =
    let T : ℤ = whole G in
    let z : 0 + sum ws ≡ sum ws = omega arith in
    lin _ _ _ T (running_sum T (sum ws) g 0 ws (omega arith)) (floor_none T (sum ws)) (ap (λ (n : ℕ). floor (T *ℤ pos n) (sum ws)) z ∙ floor_exact T (sum ws) g.some)
  where
    lin : (s x y t : ℤ) → s +ℤ x ≡ y → x ≡ pos 0 → y ≡ t → s ≡ t
    lin s x y t h p q = omega (arith, ints)

pub running_shares_all : RunningSharesAll
running_shares_all = record {
  all = running_all;
  carry = λ G ws g. lin (whole G) (total (shared running G ws)) (rest G) (running_all G ws g);
}
  where
    lin : (t s : ℤ) (n : ℕ) → s ≡ t → pos grains_per_cent *ℤ (t -ℤ s) +ℤ pos n ≡ pos n
    lin t s n e = omega (arith, ints)
