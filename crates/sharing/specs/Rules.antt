-- The tests and the ranges, and the law of the two rules.
use Rattle.std.specs.Prelude.{◌≡◌, ℕ, ◌+◌, ◌<◌, true, false, ◌⊎◌, ℤ, pos, ◌+ℤ◌, ◌-ℤ◌, ◌*ℤ◌, neg_ℤ, ◌≤ℤ◌, int_le}
use Rattle.std.proofs.Common.{ap, inl, inr, arith}
use Rattle.std.specs.Int.Signed.{≤ℤ_refl}
use Rattle.std.proofs.lemmas.Int.{ints}
use Rattle.std.proofs.lemmas.Bool.{lt-ltb, le-leb, ltb-true, leb-true, and_parts, cases_Bool, both_ways}
use Rattle.sums.specs.Floor.{floor}
use Rattle.sums.proofs.Ring.{distr_l}
use Rattle.sums.proofs.Floors.{floor_super}
use Rattle.sharing.specs.Rule.{InRange, Shareable, in_range_lem, shareable, most_cents, most_parts, Fair, down, running}

pub in_range_true : (T : ℤ) (W : ℕ) → InRange T W → in_range_lem T W ≡ true
in_range_true T W r =
    let low = r.low in
    let high = r.high in
    let a : true ≡ int_le (neg_ℤ (pos most_cents)) T = omega (arith, ints) in
    let b : true ≡ int_le T (pos most_cents) = omega (arith, ints) in
    cc (lt-ltb 0 W r.some, le-leb W most_parts r.not_too_much, a, b)

pub true_in_range : (T : ℤ) (W : ℕ) → in_range_lem T W ≡ true → InRange T W
true_in_range T W e =
    let a = and_parts _ _ e in
    let b = and_parts _ _ a.1 in
    let c = and_parts _ _ b.1 in
    record { some = ltb-true 0 W a.0; not_too_much = leb-true W most_parts b.0; low = ordered _ _ c.0; high = ordered _ _ c.1 }
  where
    ordered : (x y : ℤ) → int_le x y ≡ true → x ≤ℤ y
    ordered x y e = omega (arith, ints)

pub shareable_true : (T : ℤ) (B w W : ℕ) → Shareable T B w W → shareable T B w W ≡ true
shareable_true T B w W s = cc (in_range_true T W s.ranged, le-leb (B + w) W s.within)

pub true_shareable : (T : ℤ) (B w W : ℕ) → shareable T B w W ≡ true → Shareable T B w W
true_shareable T B w W e =
    let a = and_parts _ _ e in
    record { ranged = true_in_range T W a.0; within = leb-true (B + w) W a.1 }

pub not_shareable : (T : ℤ) (B w W : ℕ) → (Shareable T B w W → ⊥) → shareable T B w W ≡ false
not_shareable T B w W none = elim (cases_Bool (shareable T B w W)) [
  | inl e ↦ absurd (none (true_shareable T B w W e))
  | inr e ↦ e
]

pub cases_shareable : (T : ℤ) (B w W : ℕ) → Shareable T B w W ⊎ (Shareable T B w W → ⊥)
cases_shareable T B w W = elim (cases_Bool (shareable T B w W)) [
  | inl e ↦ inl (true_shareable T B w W e)
  | inr e ↦ inr (λ s. both_ways _ e (shareable_true T B w W s))
]

-- the two ends lie in order
ends : (T : ℤ) (B w W : ℕ) → 0 < W → (floor (T *ℤ pos w) W) ≤ℤ (floor (T *ℤ pos (B + w)) W -ℤ floor (T *ℤ pos B) W)
ends T B w W h =
    lin _ _ _ _ (floor_super (T *ℤ pos B) (T *ℤ pos w) W h) (ap (λ (z : ℤ). floor z W) (distr_l T (pos B) (pos w)))
  where
    lin : (x y z q : ℤ) → (y +ℤ x) ≤ℤ z → q ≡ z → x ≤ℤ (q -ℤ y)
    lin x y z q h e = omega (arith, ints)

pub down_fair : Fair down
down_fair = record {
  not_under = λ T B w W s. rw (shareable_true T B w W s) (≤ℤ_refl _);
  not_over = λ T B w W s. rw (shareable_true T B w W s) (ends T B w W s.ranged.some);
  outside = λ T B w W none. rw (not_shareable T B w W none);
}

pub running_fair : Fair running
running_fair = record {
  not_under = λ T B w W s. rw (shareable_true T B w W s) (ends T B w W s.ranged.some);
  not_over = λ T B w W s. rw (shareable_true T B w W s) (≤ℤ_refl _);
  outside = λ T B w W none. rw (not_shareable T B w W none);
}
