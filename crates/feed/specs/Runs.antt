-- Many records, one after another, and laws of reading.
use Rattle.std.specs.Prelude.{◌≡◌, ℕ, ◌+◌, ◌-◌, ◌*◌, ◌≤◌, List, [], ◌∷◌, ◌++◌, length, drop, replicate, Some, None, Ok, Err, Option, Result}
use Rattle.faults.specs.declared.fault.Fault.{Fault}
use Rattle.feed.specs.Entries.{Entry}
use Rattle.feed.specs.Front.{Front, ended, truncated, unknown_kind, size_not_allowed, whole, front}
use Rattle.feed.specs.Reading.{answer}

-- the records es stand at the front of the bytes, one after another, and then left
abbrev pub Reads : List ℕ → List Entry → List ℕ → Type 0
Reads bs [] left = bs ≡ left
Reads bs (e ∷ es) left = (n : ℕ) × (front bs ≡ whole e n) × Reads (drop n bs) es left

-- what a reader answers where it reads no further: it is at the end, or refuses
abbrev pub stop_of : Option Fault → Result (Option Entry) Fault
stop_of None = Ok None
stop_of (Some f) = Err f

-- a whole feed is read as far as it goes: n records, and then its end or a refusal
pub record Surveyed (bs : List ℕ) (n : ℕ) (refusal : Option Fault) : Type 0 where
  pub records : List Entry
  pub left : List ℕ
  pub reads : Reads bs records left
  pub count : length records ≡ n
  pub stops : answer (length bs - length left) (front left) ≡ stop_of refusal

-- what counting the records of a whole feed answers
abbrev pub Counted : List ℕ → Result ℕ Fault → Type 0
Counted bs (Ok n) = (es : List Entry) × Reads bs es [] × (length es ≡ n)
Counted bs (Err f) = (es : List Entry) × (left : List ℕ) × Reads bs es left × (answer (length bs - length left) (front left) ≡ Err f)

-- a record, or bytes that no more bytes make one
abbrev pub Settled : Front → Type 0
Settled ended = ⊥
Settled truncated = ⊥
Settled unknown_kind = Unit {0}
Settled size_not_allowed = Unit {0}
Settled (whole e n) = Unit {0}

-- bytes that follow never change how a record, or such a refusal, reads
abbrev pub LaterBytesLaw : Type 0
LaterBytesLaw = (bs later : List ℕ) → Settled (front bs) → front (bs ++ later) ≡ front bs

-- so the records of a feed are the same when it is read in pieces
abbrev pub PiecesLaw : Type 0
PiecesLaw = (bs later : List ℕ) (es : List Entry) (left : List ℕ) → Reads bs es left → Reads (bs ++ later) es (left ++ later)

-- a feed ends inside a record only where bytes are missing: with more of them, be they 0, it would not
abbrev pub TruncatedLaw : Type 0
TruncatedLaw = (bs : List ℕ) → front bs ≡ truncated → (n : ℕ) × Settled (front (bs ++ replicate n 0))

-- each record takes at least five bytes, so no feed is endless
abbrev pub EndingLaw : Type 0
EndingLaw = (bs : List ℕ) (es : List Entry) (left : List ℕ) → Reads bs es left → 5 * length es + length left ≤ length bs

-- there is one way only to read a number of records
abbrev pub OneReadingLaw : Type 0
OneReadingLaw = (bs : List ℕ) (es ds : List Entry) (left rest : List ℕ) → Reads bs es left → Reads bs ds rest → length es ≡ length ds
    → (es ≡ ds) × (left ≡ rest)
