-- A curve book file: the number of curves, the number of steps of each curve, the margins of all
-- steps, curve by curve, and then their prices.
use Rattle.std.specs.Prelude.{◌≡◌, ℕ, zero, suc, ◌+◌, ◌*◌, ◌<◌, ◌≤◌, List, [], ◌∷◌, map, length, ◌==◌, nat_le}
use Rattle.std.specs.List.{range_with_len}
use Rattle.faults.specs.declared.fault.Fault.{Fault}
use Rattle.faults.specs.declared.fault.Fault.TheVariants.{CurveSteps}
use Rattle.sums.specs.Verdict.{Verdict, accept, want, ◌then◌}
use Rattle.curves.specs.declared.step.Step.{Step}
use Rattle.curves.specs.Steps.{most_curves, curve_verdict, IsCurve}
use Rattle.curves.specs.Book.{book_verdict}
use Rattle.feed.specs.Numbers.{le16, le32}

-- how many curves there are
abbrev pub file_count : List ℕ → ℕ
file_count bs = le16 bs 0

-- how many steps curve k has
abbrev pub step_count_lem : List ℕ → ℕ → ℕ
step_count_lem bs k = le16 bs (2 + 2 * k)

-- how many steps the curves before curve k have together: the number of its first step in the file
abbrev pub first_step : List ℕ → ℕ → ℕ
first_step bs zero = 0
first_step bs (suc k) = first_step bs k + step_count_lem bs k

-- how many steps there are in all
abbrev pub file_steps : List ℕ → ℕ
file_steps bs = first_step bs (file_count bs)

-- how long the file should be: two bytes for each count, four for each margin and each price
abbrev pub file_length : List ℕ → ℕ
file_length bs = 2 + 2 * file_count bs + 8 * file_steps bs

-- step j of the file, counted over all curves
abbrev pub step_in : List ℕ → ℕ → Step
step_in bs j = record {
  margin = le32 bs (2 + 2 * file_count bs + 4 * j);
  price = le32 bs (2 + 2 * file_count bs + 4 * file_steps bs + 4 * j);
}

-- the steps of curve k
abbrev pub curve_steps : List ℕ → ℕ → List Step
curve_steps bs k = map (step_in bs) (range_with_len (first_step bs k) (step_count_lem bs k))

-- the steps of each curve
abbrev pub file_curves : List ℕ → List (List Step)
file_curves bs = map (curve_steps bs) (range_with_len 0 (file_count bs))

-- whether the file has a count, an allowed one, and the length that its counts ask for
abbrev pub length_verdict : List ℕ → Verdict Fault
length_verdict bs =
    want (nat_le 2 (length bs)) (CurveSteps 0 0)
    then (book_verdict (file_count bs) then want (length bs == file_length bs) (CurveSteps (file_count bs) 0))

-- whether the steps make curves, numbered from k on; if not, the first wrong step of the first wrong curve is told
abbrev pub curves_verdict : ℕ → List (List Step) → Verdict Fault
curves_verdict k [] = accept
curves_verdict k (ss ∷ rest) = curve_verdict k ss then curves_verdict (k + 1) rest

-- what reading the file answers
abbrev pub file_verdict : List ℕ → Verdict Fault
file_verdict bs = length_verdict bs then curves_verdict 0 (file_curves bs)

-- ---- what a curve book file is, in the subject's own words

pub record IsCurveFile (bs : List ℕ) : Type 0 where
  pub some : 1 ≤ file_count bs
  pub few : file_count bs ≤ most_curves
  pub long : length bs ≡ file_length bs
  pub sound : (k : ℕ) → k < file_count bs → IsCurve (curve_steps bs k)

-- exactly such files are accepted
abbrev pub FileLaw : Type 0
FileLaw = (bs : List ℕ) → (file_verdict bs ≡ accept → IsCurveFile bs) × (IsCurveFile bs → file_verdict bs ≡ accept)
