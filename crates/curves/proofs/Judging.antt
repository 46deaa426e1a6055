-- What accepted steps are like.
use Rattle.std.proofs.Common.{◌≡◌, ℕ, zero, suc, ◌+◌, ◌<◌, ◌≤◌, true, ◌&&◌, ltb, List, [], ◌∷◌, length, get_or, take, ◌++◌, refl, inl, inr, add-one, arith}
use Rattle.std.proofs.lemmas.List.{take_all, take_more, get_or-take, length-take-le}
use Rattle.std.proofs.lemmas.Bool.{cases_lt}
use Rattle.std.proofs.lemmas.Bool.Decides.{nat_tests}
use Rattle.faults.specs.declared.fault.Fault.{Fault}
use Rattle.faults.specs.declared.fault.Fault.TheVariants.{CurveSteps}
use Rattle.sums.specs.Verdict.{accept, accepts}
use Rattle.sums.proofs.Verdicts.{accepted, every_held, every_cut, first_failure_told}
use Rattle.curves.specs.declared.step.Step.{Step}
use Rattle.curves.specs.Steps.{most_steps, no_step, step_ok, falls, curve_verdict, IsCurve}

falls_next : (ss : List Step) (i : ℕ)
    → falls ss (i + 1)
    ≡ (ltb (get_or ss (i + 1) no_step).margin (get_or ss i no_step).margin && ltb (get_or ss (i + 1) no_step).price (get_or ss i no_step).price)
falls_next ss i = rw add-one

falls_front : (ss : List Step) (i : ℕ) → falls (take (i + 1) ss) i ≡ falls ss i
falls_front ss zero = refl
falls_front ss (suc i) =
    let a : get_or (take (suc i + 1) ss) (suc i) no_step ≡ get_or ss (suc i) no_step = get_or-take (suc i + 1) ss (suc i) no_step (omega arith) in
    let b : get_or (take (suc i + 1) ss) i no_step ≡ get_or ss i no_step = get_or-take (suc i + 1) ss i no_step (omega arith) in
    rw (a, b)

-- what stands behind a step is not looked at
pub falls_taken : (ss : List Step) (i : ℕ) → i < length ss → falls (take i ss ++ get_or ss i no_step ∷ []) (length (take i ss)) ≡ falls ss i
falls_taken ss i l =
    let n : length (take i ss) ≡ i = length-take-le i ss (omega arith) in
    rw (n, ← take_more ss i no_step l) (falls_front ss i)

few_of : (ss : List Step) → ((i : ℕ) → i < length ss → step_ok ss i ≡ true) → length ss ≤ most_steps
few_of [] h = omega arith
few_of (s ∷ ss) h = let l = h (length ss) (omega arith) in grind (arith, nat_tests)

is_curve : (ss : List Step) → ((i : ℕ) → i < length ss → step_ok ss i ≡ true) → IsCurve ss
is_curve ss h = record {
  few = few_of ss h;
  margins = λ i l. let k = h i l in grind (arith, nat_tests);
  prices = λ i l. let k = h i l in (grind (arith, nat_tests), grind (arith, nat_tests));
  margins_fall = λ i l. let k = h (i + 1) l in let f = falls_next ss i in grind (arith, nat_tests);
  prices_fall = λ i l. let k = h (i + 1) l in let f = falls_next ss i in grind (arith, nat_tests);
  ends = λ i e. let k = h i (omega arith) in grind (arith, nat_tests);
}

-- and steps that are so are accepted
is_ok : (ss : List Step) → IsCurve ss → (i : ℕ) → i < length ss → step_ok ss i ≡ true
is_ok ss h zero l =
    let f = h.few in
    let m = h.margins 0 l in
    let p = h.prices 0 l in
    let e = h.ends 0 in
    grind (arith, nat_tests)
is_ok ss h (suc i) l =
    let f = h.few in
    let m = h.margins (suc i) l in
    let p = h.prices (suc i) l in
    let a = rw add-one at (h.margins_fall i) in
    let b = rw add-one at (h.prices_fall i) in
    let e = h.ends (suc i) in
    grind (arith, nat_tests)

pub judged_curve : (n : ℕ) (ss : List Step) → curve_verdict n ss ≡ accept → IsCurve ss
judged_curve n ss e = is_curve ss (λ i l. every_held (step_ok ss) (CurveSteps n) 0 (length ss) e i (omega arith) (omega arith))

pub curve_judged : (n : ℕ) (ss : List Step) → IsCurve ss → curve_verdict n ss ≡ accept
curve_judged n ss h = (first_failure_told Fault (step_ok ss) (CurveSteps n) (length ss)).0 (is_ok ss h)

-- a slice of what a curve holds
pub held_curve : (xs ss : List Step) → xs ≡ ss → accepts (curve_verdict 0 ss) ≡ true → IsCurve xs
held_curve xs ss e h = rw e (judged_curve 0 ss (accepted (curve_verdict 0 ss) h))

pub held_sound : (ss : List Step) → IsCurve ss → accepts (curve_verdict 0 ss) ≡ true
held_sound ss h = rw (curve_judged 0 ss h)

-- ---- steps past the ninth change nothing: a ninth is refused already
module _ (ss : List Step) (h : 9 ≤ length ss) where
  same_falls : (i : ℕ) → i < 8 → falls (take 9 ss) i ≡ falls ss i
  same_falls zero l = refl
  same_falls (suc i) l =
      let a : get_or (take 9 ss) i no_step ≡ get_or ss i no_step = get_or-take 9 ss i no_step (omega arith) in
      let b : get_or (take 9 ss) (suc i) no_step ≡ get_or ss (suc i) no_step = get_or-take 9 ss (suc i) no_step (omega arith) in
      rw (a, b)

  same_ok : (i : ℕ) → i < 8 → step_ok (take 9 ss) i ≡ step_ok ss i
  same_ok i l =
      let a : get_or (take 9 ss) i no_step ≡ get_or ss i no_step = get_or-take 9 ss i no_step (omega arith) in
      let f = same_falls i l in
      let n : length (take 9 ss) ≡ 9 = length-take-le 9 ss h in
      let s : ltb (i + 1) 9 ≡ true = grind (arith, nat_tests) in
      let t : ltb (i + 1) (length ss) ≡ true = grind (arith, nat_tests) in
      rw (a, f, n, s, t)

pub nine_enough : (c : ℕ) (ss : List Step) → curve_verdict c (take 9 ss) ≡ curve_verdict c ss
nine_enough c ss =
    elim (cases_lt (length ss) 9) [
      | inl l ↦ rw (take_all 9 ss (omega arith))
      | inr h ↦ (
          let n : length (take 9 ss) ≡ 9 = length-take-le 9 ss h in
          every_cut (step_ok (take 9 ss)) (step_ok ss) (CurveSteps c) 0 8 (length (take 9 ss)) (length ss) (rw n (omega arith)) (omega arith)
          (λ i a b. same_ok ss h i (omega arith)) refl refl)
    ]
