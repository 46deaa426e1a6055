use Rattle.std.proofs.Common.{◌≡◌, ◌+◌, ◌≤◌, List, length}
use Rattle.feed.specs.Entries.{Entry}
use Rattle.feed.specs.Runs.{Reads}
use Rattle.feed.proofs.runs.survey_feed.Given as goal

abbrev pub invariant-loop-record : goal.invariant-loop-record
invariant-loop-record l =
    (l.records ≤ l.reader.offset)
    × (l.reader.offset + length l.reader.rest.now ≡ length l.feed)
    × ((es : List Entry) × Reads l.feed es l.reader.rest.now × (length es ≡ l.records))

abbrev pub decreases-loop-record : goal.decreases-loop-record
decreases-loop-record l = length l.reader.rest.now
