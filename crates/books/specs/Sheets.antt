-- When a sheet is not its book's.
use Rattle.std.specs.Prelude.{ℕ, Bool, List, length, ◌==◌}
use Rattle.faults.specs.declared.fault.Fault.{Fault}
use Rattle.faults.specs.declared.fault.Fault.TheVariants.{SheetLength, SheetNumber}
use Rattle.sums.specs.Verdict.{Verdict, want, ◌then◌, scan}

module _ {A R : Type 0} (numbered : A → ℕ) (row_number : R → ℕ) where
  abbrev pub alike : A → R → Bool
  alike a w = numbered a == row_number w

  -- as many rows as accounts, and the same numbers in the same order
  abbrev pub sheet_verdict : List A → List R → Verdict Fault
  sheet_verdict xs rows = want (length rows == length xs) (SheetLength (length xs)) then scan alike SheetNumber 0 xs rows
