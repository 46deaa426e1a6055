-- The bytes of a record, and a buffer that they are written to.
use Rattle.std.specs.Prelude.{ℕ, ◌+◌, ◌/◌, ◌%◌, List, [], ◌∷◌, ◌++◌, length, take, drop}
use Rattle.std.proofs.Common.{of_z}
use Rattle.std.specs.Int.{w32}
use Rattle.std.specs.List.{flat_map}
use Rattle.accounts.specs.declared.schedule.ScheduleRow.{ScheduleRow}
use Rattle.accounts.specs.declared.withdrawal.WithdrawalRow.{WithdrawalRow}
use Rattle.feed.specs.declared.kind.Kind.{Kind}
use Rattle.feed.specs.declared.kind.Kind.TheVariants.{Supplier, Customer, Open, Clear, Interval, Close, Void}
use Rattle.accounts.specs.declared.enrolment.NewSupplier.{NewSupplier}
use Rattle.feed.specs.Kinds.{code_of}
use Rattle.feed.specs.Entries.{Entry, SheetValues, supplier, customer, opening, clearing, interval, closing, voiding}

-- ---- numbers and rows, lowest byte first

unfoldable pub bytes16 : ℕ → List ℕ
bytes16 n = n % 256 ∷ n / 256 % 256 ∷ []

unfoldable pub bytes32 : ℕ → List ℕ
bytes32 n = n % 256 ∷ n / 256 % 256 ∷ n / 65536 % 256 ∷ n / 16777216 % 256 ∷ []

-- a row without its account number
unfoldable pub schedule_bytes : ScheduleRow → List ℕ
schedule_bytes r =
    bytes32 (of_z w32 r.energy) ++ bytes32 r.regulation ++ bytes32 r.reserves.spinning ++ bytes32 r.reserves.ten ++ bytes32 r.reserves.thirty

unfoldable pub withdrawal_bytes : WithdrawalRow → List ℕ
withdrawal_bytes r = bytes32 r.gross ++ bytes32 r.station ++ bytes32 r.exports

-- the account numbers of rows
abbrev pub number_bytes : {X : Type 0} → (X → ℕ) → List X → List ℕ
number_bytes number rows = flat_map (λ r. bytes32 (number r)) rows

-- ---- records

unfoldable pub header : ℕ → ℕ → ℕ → List ℕ
header code n m = code ∷ (bytes16 n ++ bytes16 m)

unfoldable pub supplier_bytes : NewSupplier → List ℕ
supplier_bytes s = bytes32 s.number ++ bytes16 s.location ++ bytes16 s.kind ++ bytes32 s.upper ++ bytes32 s.response

unfoldable pub sheet_bytes : SheetValues → List ℕ
sheet_bytes s = flat_map bytes32 s.prices ++ flat_map bytes32 s.targets ++ number_bytes (λ r. r.number) s.rows ++ flat_map schedule_bytes s.rows

unfoldable pub closing_bytes : List WithdrawalRow → List ℕ
closing_bytes rows = number_bytes (λ r. r.number) rows ++ flat_map withdrawal_bytes rows

abbrev pub kind_said : Entry → Kind
kind_said (supplier s) = Supplier
kind_said (customer number) = Customer
kind_said (opening hour) = Open
kind_said (clearing s) = Clear
kind_said (interval seconds s) = Interval
kind_said (closing rows) = Close
kind_said voiding = Void

abbrev pub first_size : Entry → ℕ
first_size (supplier s) = 0
first_size (customer number) = 0
first_size (opening hour) = 0
first_size (clearing s) = length s.prices
first_size (interval seconds s) = length s.prices
first_size (closing rows) = 0
first_size voiding = 0

abbrev pub second_size : Entry → ℕ
second_size (supplier s) = 0
second_size (customer number) = 0
second_size (opening hour) = 0
second_size (clearing s) = length s.rows
second_size (interval seconds s) = length s.rows
second_size (closing rows) = length rows
second_size voiding = 0

abbrev pub body_bytes : Entry → List ℕ
body_bytes (supplier s) = supplier_bytes s
body_bytes (customer number) = bytes32 number
body_bytes (opening hour) = bytes32 hour
body_bytes (clearing s) = sheet_bytes s
body_bytes (interval seconds s) = bytes32 seconds ++ sheet_bytes s
body_bytes (closing rows) = closing_bytes rows
body_bytes voiding = []

abbrev pub bytes_of : Entry → List ℕ
bytes_of e = header (code_of (kind_said e)) (first_size e) (second_size e) ++ body_bytes e

-- ---- writing

-- the list xs with the bytes bs written from place at on
unfoldable pub written : ℕ → List ℕ → List ℕ → List ℕ
written at bs xs = take at xs ++ (bs ++ drop (at + length bs) xs)
