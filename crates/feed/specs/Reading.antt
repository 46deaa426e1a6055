-- What a reader hands out, and what it answers.
use Rattle.std.specs.Prelude.{◌≡◌, ℕ, ◌+◌, ◌≤◌, List, map, Some, None, Ok, Err, Option, Result}
use Rattle.std.specs.List.{range_with_len}
use Rattle.faults.specs.declared.fault.Fault.{Fault}
use Rattle.faults.specs.declared.fault.Fault.TheVariants.{Truncated, UnknownKind, SizeNotAllowed}
use Rattle.faults.specs.Told.{told_of}
use Rattle.accounts.specs.declared.schedule.ScheduleRow.{ScheduleRow}
use Rattle.accounts.specs.declared.withdrawal.WithdrawalRow.{WithdrawalRow}
use Rattle.feed.specs.declared.parts.Rows.{Rows}
use Rattle.feed.specs.declared.parts.Sheet.{Sheet}
use Rattle.feed.specs.declared.record.Record.{Record}
use Rattle.feed.specs.declared.record.Record.TheVariants as records
use Rattle.feed.specs.Numbers.{number_in}
use Rattle.feed.specs.Entries.{Entry, SheetValues, row_count, supplier, customer, opening, clearing, interval, closing, voiding, schedule_row, withdrawal_row, Sized}
use Rattle.feed.specs.Front.{Front, ended, truncated, unknown_kind, size_not_allowed, whole}

-- ---- parts of a feed, and a record that has them

-- the rows of a list, each of which is read of the bytes of all numbers and of those that follow them
abbrev pub rows_of : {R : Type 0} → ℕ → (List ℕ → List ℕ → ℕ → R) → Rows R → List R
rows_of width row p = map (row p.numbers.now p.rest.now) (range_with_len 0 (row_count width p.numbers.now p.rest.now))

abbrev pub numbers_of : Rows ℕ → List ℕ
numbers_of p = rows_of 0 (λ ns rs i. number_in ns i) p

abbrev pub schedules_of : Rows ScheduleRow → List ScheduleRow
schedules_of p = rows_of 20 schedule_row p

abbrev pub withdrawals_of : Rows WithdrawalRow → List WithdrawalRow
withdrawals_of p = rows_of 12 withdrawal_row p

abbrev pub sheet_of : Sheet → SheetValues
sheet_of s = record { prices = numbers_of s.prices; targets = numbers_of s.targets; rows = schedules_of s.rows }

-- what a record says
abbrev pub says : Record → Entry
says (records.Supplier s) = supplier s
says (records.Customer number) = customer number
says (records.Open hour) = opening hour
says (records.Clear s) = clearing (sheet_of s)
says (records.Interval seconds s) = interval seconds (sheet_of s)
says (records.Close r) = closing (withdrawals_of r)
says records.Void = voiding

-- ---- a reader's answers

-- what is to be answered of the front of the bytes from an offset on
abbrev pub answer : ℕ → Front → Result (Option Entry) Fault
answer offset ended = Ok None
answer offset truncated = Err (Truncated offset)
answer offset unknown_kind = Err (UnknownKind offset)
answer offset size_not_allowed = Err (SizeNotAllowed offset)
answer offset (whole e n) = Ok (Some e)

-- what was answered
abbrev pub answered : Result (Option Record) Fault → Result (Option Entry) Fault
answered (Ok None) = Ok None
answered (Ok (Some r)) = Ok (Some (says r))
answered (Err f) = Err f

-- the same of answers with the record's length
abbrev pub long_answer : ℕ → Front → Result (Option (Entry × ℕ)) Fault
long_answer offset ended = Ok None
long_answer offset truncated = Err (Truncated offset)
long_answer offset unknown_kind = Err (UnknownKind offset)
long_answer offset size_not_allowed = Err (SizeNotAllowed offset)
long_answer offset (whole e n) = Ok (Some (e, n))

abbrev pub long_answered : Result (Option (Record × ℕ)) Fault → Result (Option (Entry × ℕ)) Fault
long_answered (Ok None) = Ok None
long_answered (Ok (Some p)) = Ok (Some (says p.0, p.1))
long_answered (Err f) = Err f

-- a whole record has its header at least, and no more bytes than there are
abbrev pub Within : Result (Option (Record × ℕ)) Fault → ℕ → Type 0
Within (Ok None) room = Unit {0}
Within (Ok (Some p)) room = (5 ≤ p.1) × (p.1 ≤ room)
Within (Err f) room = Unit {0}

-- a record moves the reader on by its header at least; nothing else moves it, and a refusal tells where it stands
abbrev pub Onward : Result (Option Record) Fault → ℕ → ℕ → Type 0
Onward (Ok None) before after = after ≡ before
Onward (Ok (Some r)) before after = (before + 5 ≤ after) × Sized (says r)
Onward (Err f) before after = (after ≡ before) × ((told_of f).value ≡ Some before)
