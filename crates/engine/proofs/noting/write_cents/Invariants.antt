use Rattle.std.proofs.Common.{◌≡◌, map, length, take}
use Rattle.engine.proofs.noting.write_cents.Given as goal

abbrev pub invariant-loop-i : goal.invariant-loop-i
invariant-loop-i g l =
    (length l.room ≡ length l.initial.room)
    × (take l.i l.room ≡ map g.A.Account.money (take l.i l.accounts))
