-- What a writer answers, and what it leaves.
use Rattle.std.specs.Prelude.{◌≡◌, ℕ, ◌+◌, ◌≤◌, Bool, true, cond, ◌&&◌, List, length, IfOk, Ok, Err, Result, ◌==◌, nat_le}
use Rattle.faults.specs.declared.fault.Fault.{Fault}
use Rattle.faults.specs.declared.fault.Fault.TheVariants.{SizeNotAllowed, BufferTooShort}
use Rattle.accounts.specs.declared.schedule.ScheduleRow.{ScheduleRow}
use Rattle.feed.specs.declared.kind.Kind.{Kind}
use Rattle.feed.specs.Kinds.{allowed, body_length_lem}
use Rattle.feed.specs.Entries.{Entry, SheetValues, supplier, customer, opening, clearing, interval, closing, voiding}
use Rattle.feed.specs.Front.{front, whole}
use Rattle.feed_writer.specs.Bytes.{kind_said, first_size, second_size, bytes_of, written}

-- whether prices and targets are equally many
abbrev pub paired : Entry → Bool
paired (supplier s) = true
paired (customer number) = true
paired (opening hour) = true
paired (clearing s) = length s.prices == length s.targets
paired (interval seconds s) = length s.prices == length s.targets
paired (closing rows) = true
paired voiding = true

abbrev pub writable : Entry → Bool
writable e = paired e && allowed (kind_said e) (first_size e) (second_size e)

-- how many bytes the record has
abbrev pub length_of : Entry → ℕ
length_of e = 5 + body_length_lem (kind_said e) (first_size e) (second_size e)

-- refused for its sizes, or by a buffer that is too short, or written
abbrev pub write_answer : Bool → ℕ → ℕ → Result ℕ Fault
write_answer ok needed room = cond ok (cond (nat_le needed room) (Ok needed) (Err (BufferTooShort needed))) (Err (SizeNotAllowed 0))

-- what a buffer holds after that
abbrev pub after : Result ℕ Fault → List ℕ → List ℕ → List ℕ
after (Ok n) bs buffer = written 0 bs buffer
after (Err f) bs buffer = buffer

abbrev pub sheet_values : List ℕ → List ℕ → List ScheduleRow → SheetValues
sheet_values prices targets rows = record { prices = prices; targets = targets; rows = rows }

-- a record of allowed sizes that fits
pub record Started (k : Kind) (n m needed room : ℕ) : Type 0 where
  pub sizes : allowed k n m ≡ true
  pub whole : needed ≡ 5 + body_length_lem k n m
  pub fits : needed ≤ room

-- what writing a record answered, and what it left of a buffer; what is written reads back as the record
pub record Wrote (e : Entry) (r : Result ℕ Fault) (before exit : List ℕ) : Type 0 where
  pub reply : r ≡ write_answer (writable e) (length_of e) (length before)
  pub holds : exit ≡ after r (bytes_of e) before
  pub reads : IfOk r (λ n. front exit ≡ whole e n)
