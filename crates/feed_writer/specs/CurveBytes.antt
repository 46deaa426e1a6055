-- The bytes of a curve book file.
use Rattle.std.specs.Prelude.{◌≡◌, ℕ, ◌+◌, ◌*◌, true, List, ◌++◌, length, take, IfOk, Result}
use Rattle.std.specs.List.{flat_map}
use Rattle.faults.specs.declared.fault.Fault.{Fault}
use Rattle.sums.specs.Verdict.{accept}
use Rattle.curves.specs.declared.step.Step.{Step}
use Rattle.feed.specs.CurveFile.{file_verdict, file_curves}
use Rattle.feed_writer.specs.Bytes.{bytes16, bytes32}
use Rattle.feed_writer.specs.Writing.{write_answer, after}

-- all steps, curve by curve
abbrev pub all_steps : List (List Step) → List Step
all_steps cs = flat_map (λ ss. ss) cs

-- one number of each step
unfoldable pub column_bytes : (Step → ℕ) → List Step → List ℕ
column_bytes number ss = flat_map (λ s. bytes32 (number s)) ss

-- how many steps each curve has
unfoldable pub count_bytes : List (List Step) → List ℕ
count_bytes cs = flat_map (λ ss. bytes16 (length ss)) cs

unfoldable pub file_bytes : List (List Step) → List ℕ
file_bytes cs = bytes16 (length cs) ++ count_bytes cs ++ column_bytes (λ s. s.margin) (all_steps cs) ++ column_bytes (λ s. s.price) (all_steps cs)

abbrev pub file_size : List (List Step) → ℕ
file_size cs = 2 + 2 * length cs + 8 * length (all_steps cs)

-- what writing the curves of a book answered, and what it left of a buffer; what is written is accepted as a curve
-- book file, and reads back as the same curves
pub record WroteFile (cs : List (List Step)) (r : Result ℕ Fault) (before exit : List ℕ) : Type 0 where
  pub reply : r ≡ write_answer true (file_size cs) (length before)
  pub holds : exit ≡ after r (file_bytes cs) before
  pub accepted : IfOk r (λ n. file_verdict (take n exit) ≡ accept)
  pub reads : IfOk r (λ n. file_curves (take n exit) ≡ cs)
