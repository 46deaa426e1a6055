use Rattle.std.proofs.Common.{◌≡◌, ◌++◌, map, take, drop}
use Rattle.books.specs.Rules.{Answers}
use Rattle.books.proofs.changes.change_all.Given as goal

abbrev pub invariant-loop-account : goal.invariant-loop-account
invariant-loop-account g l =
    (becomes : _) → Answers g.C.Fn l.change becomes
    → l.accounts ≡ map becomes (take l.account-index l.initial.accounts) ++ drop l.account-index l.initial.accounts
