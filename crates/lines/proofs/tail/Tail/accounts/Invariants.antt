use Rattle.std.proofs.Common.{◌≡◌, ℕ, ◌+◌, ◌*◌, ◌≤◌, List, ◌++◌, length}
use Rattle.std.specs.Iterator.Adapters.{zip_first, zip_second, rev_source}
use Rattle.std.specs.Slice.Iter.{iter_rest}
use Rattle.lines.specs.Sides.{side_letter}
use Rattle.lines.specs.Tails.{Grown}
use Rattle.lines.specs.Texts.{most_line}
use Rattle.lines.specs.Closings.{account_texts}
use Rattle.lines.proofs.tail.Tail.accounts.Given as goal

-- the lines of the accounts that are left go before those that stand, and there is room for them
abbrev pub invariant-loop-account : goal.invariant-loop-account
invariant-loop-account g l =
    (goal.iterator-loop-account g).can_next l.account-iterator
    × (goal.iterator-loop-account g).is_finite l.account-iterator
    × (let left = iter_rest (rev_source (zip_first l.account-iterator)) in
    let noted = iter_rest (rev_source (zip_second l.account-iterator)) in
    (length left ≡ length noted)
    × ((told : List ℕ) × Grown told l.initial.self l.self
    × (account_texts g.A.Numbered.numbered g.A.Account.money (side_letter l.side) l.hour noted left ++ told
    ≡ account_texts g.A.Numbered.numbered g.A.Account.money (side_letter l.side) l.hour l.before l.accounts))
    × (most_line * length left ≤ l.self.start)
    × (l.initial.self.start + most_line * length left ≤ l.self.start + most_line * length l.accounts))
