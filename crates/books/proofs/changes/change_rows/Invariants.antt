use Rattle.std.proofs.Common.{◌≡◌, take}
use Rattle.books.specs.Changes.{change_each}
use Rattle.books.specs.Rules.{AnswersByRow}
use Rattle.books.proofs.changes.change_rows.Given as goal

abbrev pub invariant-loop-i : goal.invariant-loop-i
invariant-loop-i g l =
    (becomes : _) → AnswersByRow g.C.Fn l.change becomes
    → l.accounts ≡ change_each becomes l.initial.accounts (take l.i l.rows)
