-- Values that the fields of a record can hold.
use Rattle.std.specs.Prelude.{ℕ, ◌^◌, ◌<◌, List, FitsSigned}
use Rattle.std.specs.Int.{w32}
use Rattle.std.specs.List.{AllByRecursion}
use Rattle.accounts.specs.declared.schedule.ScheduleRow.{ScheduleRow}
use Rattle.accounts.specs.declared.withdrawal.WithdrawalRow.{WithdrawalRow}
use Rattle.accounts.specs.declared.enrolment.NewSupplier.{NewSupplier}
use Rattle.feed.specs.Entries.{Entry, SheetValues, supplier, customer, opening, clearing, interval, closing, voiding}

-- two bytes, and four
abbrev pub Short : ℕ → Type 0
Short n = n < 2 ^ 16

abbrev pub Word : ℕ → Type 0
Word n = n < 2 ^ 32

pub record SupplierFits (s : NewSupplier) : Type 0 where
  pub number : Word s.number
  pub location : Short s.location
  pub kind : Short s.kind
  pub upper : Word s.upper
  pub response : Word s.response

-- a row, but for its account number
pub record ScheduleFits (r : ScheduleRow) : Type 0 where
  pub energy : FitsSigned w32 r.energy
  pub regulation : Word r.regulation
  pub thirty : Word r.reserves.thirty
  pub ten : Word r.reserves.ten
  pub spinning : Word r.reserves.spinning

pub record WithdrawalFits (r : WithdrawalRow) : Type 0 where
  pub gross : Word r.gross
  pub station : Word r.station
  pub exports : Word r.exports

pub record SheetFits (s : SheetValues) : Type 0 where
  pub prices : AllByRecursion Word s.prices
  pub targets : AllByRecursion Word s.targets
  pub numbers : AllByRecursion (λ r. Word r.number) s.rows
  pub rows : AllByRecursion ScheduleFits s.rows

pub record ClosingFits (rs : List WithdrawalRow) : Type 0 where
  pub numbers : AllByRecursion (λ r. Word r.number) rs
  pub rows : AllByRecursion WithdrawalFits rs

abbrev pub Fitting : Entry → Type 0
Fitting (supplier s) = SupplierFits s
Fitting (customer number) = Word number
Fitting (opening hour) = Word hour
Fitting (clearing s) = SheetFits s
Fitting (interval seconds s) = Word seconds × SheetFits s
Fitting (closing rows) = ClosingFits rows
Fitting voiding = Unit {0}
