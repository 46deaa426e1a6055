-- No more than nine steps of a curve are looked at.
use Rattle.std.proofs.Common.{◌≡◌, ℕ, min, List, map, take, sym, ap, ◌∙◌, inl, inr, arith}
use Rattle.std.specs.List.{range_with_len}
use Rattle.std.proofs.lemmas.List.FromFn.{length-map-range_with_len, take-map-range_with_len}
use Rattle.std.proofs.lemmas.List.{take_all}
use Rattle.std.proofs.lemmas.Bool.{cases_lt}
use Rattle.sums.specs.Verdict.{accept}
use Rattle.curves.specs.declared.step.Step.{Step}
use Rattle.curves.specs.Steps.{curve_verdict}
use Rattle.curves.proofs.Judging.{judged_curve, nine_enough}

-- the first m of n steps are seen, of which the part that is judged is made
module _ (f : ℕ → Step) (a n m : ℕ) (part : List Step) (e : m ≡ min n 9) (p : part ≡ map f (range_with_len a m)) where
  seen : part ≡ take 9 (map f (range_with_len a n))
  seen =
      p ∙ elim (cases_lt n 9) [
        | inl l ↦ (
            let s : m ≡ n = omega arith in
            rw s (sym (take_all 9 (map f (range_with_len a n)) (rw (length-map-range_with_len f a n) (omega arith)))))
        | inr h ↦ (let s : m ≡ 9 = omega arith in rw s (sym (take-map-range_with_len f a n 9 h)))
      ]

  pub seen_verdict : (k : ℕ) → curve_verdict k part ≡ curve_verdict k (map f (range_with_len a n))
  seen_verdict k = ap (curve_verdict k) seen ∙ nine_enough k (map f (range_with_len a n))

  pub seen_all : (k : ℕ) → accept ≡ curve_verdict k part → part ≡ map f (range_with_len a n)
  seen_all k h =
      let c = judged_curve k (map f (range_with_len a n)) (sym (h ∙ seen_verdict k)) in
      let l = c.few in
      let s : m ≡ n = omega (arith, length-map-range_with_len f a n) in
      rw (← s) p
