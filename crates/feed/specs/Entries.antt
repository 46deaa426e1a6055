-- What a record says, as values, and where in its body it says it.
use Rattle.std.specs.Prelude.{◌≡◌, ℕ, ◌+◌, ◌*◌, ◌/◌, ◌≤◌, min, nat_lt, cond, ◌==◌, if◌then◌else◌, List, map, length, drop, Option, Some, None}
use Rattle.std.proofs.Common.{to_z}
use Rattle.std.specs.Int.{w32}
use Rattle.std.specs.List.{range_with_len}
use Rattle.accounts.specs.declared.schedule.ScheduleRow.{ScheduleRow}
use Rattle.accounts.specs.declared.withdrawal.WithdrawalRow.{WithdrawalRow}
use Rattle.feed.specs.declared.kind.Kind.{Kind}
use Rattle.feed.specs.declared.kind.Kind.TheVariants.{Supplier, Customer, Open, Clear, Interval, Close, Void}
use Rattle.accounts.specs.declared.enrolment.NewSupplier.{NewSupplier}
use Rattle.feed.specs.Numbers.{le16, le32, number_in, numbers_in}
use Rattle.feed.specs.Kinds.{most_prices, most_schedules, most_withdrawals}

-- a price and a target for each requirement, and a row for each supplier
pub record SheetValues : Type 0 where
  pub prices : List ℕ
  pub targets : List ℕ
  pub rows : List ScheduleRow

pub data Entry : Type 0 where
  supplier : NewSupplier → Entry
  customer : ℕ → Entry
  opening : ℕ → Entry
  clearing : SheetValues → Entry
  interval : ℕ → SheetValues → Entry
  closing : List WithdrawalRow → Entry
  voiding : Entry

-- ---- the rows of a list: of all numbers, and of the other bytes of all rows

-- as many as there are bytes for
abbrev pub number_count : List ℕ → ℕ
number_count bs = length bs / 4

-- the same of rows that have so many bytes besides their numbers
abbrev pub row_count : ℕ → List ℕ → List ℕ → ℕ
row_count width ns rs = cond (width == 0) (number_count ns) (min (number_count ns) (length rs / width))

-- row i, as it is read of these bytes, if it is all there
abbrev pub row_in : {R : Type 0} → ℕ → (List ℕ → List ℕ → ℕ → R) → List ℕ → List ℕ → ℕ → Option R
row_in width row ns rs i = if nat_lt i (row_count width ns rs) then Some (row ns rs i) else None

-- row i, of a list of account numbers and a list of rows of twenty bytes
abbrev pub schedule_row : List ℕ → List ℕ → ℕ → ScheduleRow
schedule_row ns rs i = record {
  number = number_in ns i;
  energy = to_z w32 (le32 rs (20 * i));
  regulation = le32 rs (20 * i + 4);
  reserves = record {
    thirty = le32 rs (20 * i + 16);
    ten = le32 rs (20 * i + 12);
    spinning = le32 rs (20 * i + 8);
  };
}

abbrev pub schedule_rows : List ℕ → List ℕ → ℕ → List ScheduleRow
schedule_rows ns rs m = map (schedule_row ns rs) (range_with_len 0 m)

-- row i, of a list of account numbers and a list of rows of twelve bytes
abbrev pub withdrawal_row : List ℕ → List ℕ → ℕ → WithdrawalRow
withdrawal_row ns rs i = record {
  number = number_in ns i;
  gross = le32 rs (12 * i);
  station = le32 rs (12 * i + 4);
  exports = le32 rs (12 * i + 8);
}

abbrev pub withdrawal_rows : List ℕ → List ℕ → ℕ → List WithdrawalRow
withdrawal_rows ns rs m = map (withdrawal_row ns rs) (range_with_len 0 m)

-- n prices, n targets, m account numbers and m schedule rows, one after another
abbrev pub sheet_in : List ℕ → ℕ → ℕ → SheetValues
sheet_in b n m = record {
  prices = numbers_in b n;
  targets = numbers_in (drop (4 * n) b) n;
  rows = schedule_rows (drop (8 * n) b) (drop (8 * n + 4 * m) b) m;
}

-- what the body of a record says
abbrev pub body_says : Kind → ℕ → ℕ → List ℕ → Entry
body_says Supplier n m b = supplier (record {
  number = le32 b 0;
  location = le16 b 4;
  kind = le16 b 6;
  upper = le32 b 8;
  response = le32 b 12;
})
body_says Customer n m b = customer (le32 b 0)
body_says Open n m b = opening (le32 b 0)
body_says Clear n m b = clearing (sheet_in b n m)
body_says Interval n m b = interval (le32 b 0) (sheet_in (drop 4 b) n m)
body_says Close n m b = closing (withdrawal_rows b (drop (4 * m) b) m)
body_says Void n m b = voiding

-- ---- the lists of a record are no longer than they may be

pub record SheetSized (s : SheetValues) : Type 0 where
  pub some : 1 ≤ length s.prices
  pub few : length s.prices ≤ most_prices
  pub paired : length s.targets ≡ length s.prices
  pub listed : length s.rows ≤ most_schedules

abbrev pub Sized : Entry → Type 0
Sized (supplier s) = Unit {0}
Sized (customer number) = Unit {0}
Sized (opening hour) = Unit {0}
Sized (clearing s) = SheetSized s
Sized (interval seconds s) = SheetSized s
Sized (closing rows) = length rows ≤ most_withdrawals
Sized voiding = Unit {0}
