-- What is written reads back.
use Rattle.std.specs.Prelude.{◌≡◌, ℕ, true, List, ◌++◌}
use Rattle.std.specs.List.{flat_map, AllByRecursion}
use Rattle.feed.specs.Entries.{Entry}
use Rattle.feed.specs.Front.{front, whole}
use Rattle.feed.specs.Runs.{Reads}
use Rattle.feed_writer.specs.Bytes.{bytes_of}
use Rattle.feed_writer.specs.Writing.{writable, length_of}
use Rattle.feed_writer.specs.Fitting.{Fitting}

-- a record of allowed sizes, whatever follows it
abbrev pub RecordBackLaw : Type 0
RecordBackLaw = (e : Entry) (later : List ℕ) → writable e ≡ true → Fitting e → front (bytes_of e ++ later) ≡ whole e (length_of e)

-- any number of records, written one after another, one by one
abbrev pub FeedBackLaw : Type 0
FeedBackLaw = (es : List Entry) (later : List ℕ) → AllByRecursion (λ e. (writable e ≡ true) × Fitting e) es → Reads (flat_map bytes_of es ++ later) es later
