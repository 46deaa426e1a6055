-- What a curve and a curve book hold.
use Rattle.std.specs.Prelude.{ℕ, ◌&&◌, List, [], map, nat_le, slice_index_or}
use Rattle.faults.specs.declared.fault.Fault.{Fault}
use Rattle.faults.specs.declared.fault.Fault.TheVariants.{CurveSteps}
use Rattle.sums.specs.Verdict.{Verdict, want}
use Rattle.curves.specs.declared.step.Step.{Step}
use Rattle.curves.specs.declared.curve.Curve.{Curve}
use Rattle.curves.specs.declared.book.CurveBook.{CurveBook}
use Rattle.curves.specs.Steps.{most_curves}

-- the steps of a curve
abbrev pub steps_of : Curve → List Step
steps_of c = c.steps.items

-- the steps of each curve of a book, by the number of the requirement
abbrev pub curves_of : CurveBook → List (List Step)
curves_of b = map steps_of b.curves.items

-- the steps of curve k, none past the last curve
abbrev pub steps_at_lem : List (List Step) → ℕ → List Step
steps_at_lem cs k = slice_index_or cs k []

-- whether a book may have n curves; if not, their number is told
abbrev pub book_verdict : ℕ → Verdict Fault
book_verdict n = want (nat_le 1 n && nat_le n most_curves) (CurveSteps n 0)
