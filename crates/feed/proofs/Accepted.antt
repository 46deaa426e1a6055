-- Which curve book files are accepted.
use Rattle.std.proofs.Common.{◌≡◌, ℕ, zero, suc, ◌+◌, ◌<◌, ◌≤◌, true, ◌&&◌, eqb, leb, List, map, length, refl, ◌∙◌, inl, inr, eq-or-lt_of_le, arith}
use Rattle.std.specs.List.{range_with_len}
use Rattle.std.proofs.lemmas.Bool.Decides.{nat_tests}
use Rattle.faults.specs.declared.fault.Fault.TheVariants.{CurveSteps}
use Rattle.sums.specs.Verdict.{accept, want}
use Rattle.sums.proofs.Verdicts.{both, wanted, pass}
use Rattle.curves.specs.declared.step.Step.{Step}
use Rattle.curves.specs.Steps.{most_curves, curve_verdict}
use Rattle.curves.specs.Book.{book_verdict}
use Rattle.curves.proofs.Judging.{judged_curve, curve_judged}
use Rattle.feed.specs.CurveFile.{file_count, file_length, curve_steps, file_curves, length_verdict, curves_verdict, file_verdict, IsCurveFile, FileLaw}

module _ (g : ℕ → List Step) where
  all_held : (k n : ℕ) → curves_verdict k (map g (range_with_len k n)) ≡ accept → (i : ℕ) → k ≤ i → i < k + n → curve_verdict i (g i) ≡ accept
  all_held k zero e i h l = absurd (omega arith)
  all_held k (suc n) e i h l =
      let b = both (curve_verdict k (g k)) (curves_verdict (k + 1) (map g (range_with_len (k + 1) n))) e in
      elim (eq-or-lt_of_le h) [
        | inl q ↦ rw (← q) b.0
        | inr s ↦ all_held (k + 1) n b.1 i (omega arith) (omega arith)
      ]

  all_hold : (k n : ℕ) → ((i : ℕ) → k ≤ i → i < k + n → curve_verdict i (g i) ≡ accept) → curves_verdict k (map g (range_with_len k n)) ≡ accept
  all_hold k zero h = refl
  all_hold k (suc n) h =
      pass (curve_verdict k (g k)) _ (h k (omega arith) (omega arith)) ∙ all_hold (k + 1) n (λ i a b. h i (omega arith) (omega arith))

accepted_file : (bs : List ℕ) → file_verdict bs ≡ accept → IsCurveFile bs
accepted_file bs e =
    let a = both (length_verdict bs) (curves_verdict 0 (file_curves bs)) e in
    let b = both (want (leb 2 (length bs)) (CurveSteps 0 0)) _ a.0 in
    let d = both (book_verdict (file_count bs)) _ b.1 in
    let n = wanted (leb 1 (file_count bs) && leb (file_count bs) most_curves) (CurveSteps (file_count bs) 0) d.0 in
    let l = wanted (eqb (length bs) (file_length bs)) (CurveSteps (file_count bs) 0) d.1 in
    record {
      some = grind (arith, nat_tests);
      few = grind (arith, nat_tests);
      long = grind (arith, nat_tests);
      sound = λ k h. judged_curve k (curve_steps bs k) (all_held (curve_steps bs) 0 (file_count bs) a.1 k (omega arith) (omega arith));
    }

file_accepted : (bs : List ℕ) → IsCurveFile bs → file_verdict bs ≡ accept
file_accepted bs h =
    let s = h.some in
    let f = h.few in
    let l = h.long in
    let a : leb 2 (length bs) ≡ true = grind (arith, nat_tests) in
    let b : (leb 1 (file_count bs) && leb (file_count bs) most_curves) ≡ true = grind (arith, nat_tests) in
    let d : eqb (length bs) (file_length bs) ≡ true = grind (arith, nat_tests) in
    rw (a, b, d) (all_hold (curve_steps bs) 0 (file_count bs) (λ i u v. curve_judged i (curve_steps bs i) (h.sound i (omega arith))))

pub file_law : FileLaw
file_law bs = (accepted_file bs, file_accepted bs)
