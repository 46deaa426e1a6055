-- The value of a curve: the steps of a loop over it, and how it goes with target and quantity.
use Rattle.std.proofs.Common.{◌≡◌, ℕ, suc, ◌+◌, ◌<◌, ◌≤◌, cond, leb, List, [], ◌∷◌, length, get_or, drop, add-one, arith}
use Rattle.std.proofs.lemmas.List.{drop_more, drop_all}
use Rattle.std.proofs.lemmas.Bool.Decides.{nat_tests}
use Rattle.curves.specs.declared.step.Step.{Step}
use Rattle.curves.specs.Steps.{no_step, IsCurve}
use Rattle.curves.specs.Value.{value_at, ValueLaw}

pub value_next : (ss : List Step) (t q i : ℕ) → i < length ss
    → value_at (drop i ss) t q ≡ cond (leb (q + (get_or ss i no_step).margin) t) (get_or ss i no_step).price (value_at (drop (i + 1) ss) t q)
value_next ss t q i h = rw (drop_more ss i no_step h)

pub value_none : (ss : List Step) (t q i : ℕ) → length ss ≤ i → value_at (drop i ss) t q ≡ 0
value_none ss t q i h = rw drop_all

-- what is left of a curve after its first step is a curve
rest_curve : (s : Step) (ss : List Step) → IsCurve (s ∷ ss) → IsCurve ss
rest_curve s ss h = record {
  few = let f = h.few in omega arith;
  margins = λ i l. h.margins (suc i) (omega arith);
  prices = λ i l. h.prices (suc i) (omega arith);
  margins_fall = λ i l. rw (add-one i) (rw (add-one (suc i)) at (h.margins_fall (suc i) (omega arith)));
  prices_fall = λ i l. rw (add-one i) (rw (add-one (suc i)) at (h.prices_fall (suc i) (omega arith)));
  ends = λ i e. h.ends (suc i) (omega arith);
}

-- no later step is worth more than an earlier one
below_first : (s : Step) (ss : List Step) → IsCurve (s ∷ ss) → (t q : ℕ) → value_at ss t q ≤ s.price
below_first s [] h t q = omega arith
below_first s (s' ∷ ss) h t q =
    let f : s'.price < s.price = h.prices_fall 0 (omega arith) in
    let r = below_first s' ss (rest_curve s (s' ∷ ss) h) t q in
    grind (arith, nat_tests)

pub value_law : ValueLaw
value_law [] h = (λ t q q' l. omega arith, λ t t' q l. omega arith)
value_law (s ∷ ss) h =
    let rest = value_law ss (rest_curve s ss h) in (
      λ t q q' l. let r = rest.0 t q q' l in let b = below_first s ss h t q' in grind (arith, nat_tests),
      λ t t' q l. let r = rest.1 t t' q l in let b = below_first s ss h t q in grind (arith, nat_tests),
    )
