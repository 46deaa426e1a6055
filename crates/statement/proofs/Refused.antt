-- Whatever is wrong with a curve book file, it is refused by 51.
use Rattle.std.proofs.Common.{◌≡◌, ℕ, zero, suc, ◌+◌, Bool, true, false, ◌&&◌, ◌==◌, nat_le, List, [], ◌∷◌, length, Ok, Err, refl, sym, subst}
use Rattle.faults.specs.declared.fault.Fault.{Fault}
use Rattle.faults.specs.declared.fault.Fault.TheVariants.{CurveSteps}
use Rattle.faults.specs.Told.{told_of}
use Rattle.sums.specs.Verdict.{Verdict, ◌then◌, want, every}
use Rattle.curves.specs.declared.step.Step.{Step}
use Rattle.curves.specs.Steps.{step_ok, curve_verdict, most_curves}
use Rattle.curves.specs.Book.{book_verdict}
use Rattle.feed.specs.CurveFile.{file_count, file_length, file_curves, length_verdict, curves_verdict, file_verdict}
use Rattle.statement.specs.Refusals.{RefusedBy}

want_by : (b : Bool) (c s : ℕ) → RefusedBy 51 (want b (CurveSteps c s))
want_by true c s = tt
want_by false c s = refl

then_by : (v w : Verdict Fault) → RefusedBy 51 v → RefusedBy 51 w → RefusedBy 51 (v then w)
then_by (Ok u) w p q = q
then_by (Err f) w p q = p

every_by : (ok : ℕ → Bool) (c k n : ℕ) → RefusedBy 51 (every ok (CurveSteps c) k n)
every_by ok c k zero = tt
every_by ok c k (suc n) = then_by (want (ok k) (CurveSteps c k)) (every ok (CurveSteps c) (k + 1) n) (want_by (ok k) c k) (every_by ok c (k + 1) n)

curves_by : (k : ℕ) (curves : List (List Step)) → RefusedBy 51 (curves_verdict k curves)
curves_by k [] = tt
curves_by k (steps ∷ rest) = then_by (curve_verdict k steps) (curves_verdict (k + 1) rest) (every_by (step_ok steps) k 0 (length steps)) (curves_by (k + 1) rest)

file_by : (bs : List ℕ) → RefusedBy 51 (file_verdict bs)
file_by bs =
    let counted = want_by (nat_le 1 (file_count bs) && nat_le (file_count bs) most_curves) (file_count bs) 0 in
    let long = want_by (length bs == file_length bs) (file_count bs) 0 in
    then_by (length_verdict bs) (curves_verdict 0 (file_curves bs))
    (then_by (want (nat_le 2 (length bs)) (CurveSteps 0 0)) (book_verdict (file_count bs) then want (length bs == file_length bs) (CurveSteps (file_count bs) 0))
    (want_by (nat_le 2 (length bs)) 0 0)
    (then_by (book_verdict (file_count bs)) (want (length bs == file_length bs) (CurveSteps (file_count bs) 0)) counted long))
    (curves_by 0 (file_curves bs))

pub file_refused : (bs : List ℕ) (fault : Fault) → Err fault ≡ file_verdict bs → (told_of fault).number ≡ 51
file_refused bs fault e = subst (λ v. RefusedBy 51 v) (sym e) (file_by bs)
