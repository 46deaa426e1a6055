use Rattle.std.proofs.Common.{◌≡◌, ◌-◌, ◌*◌, ◌^◌, ◌≤◌, map, take, sum}
use Rattle.sharing.proofs.portion.total_of.Given as goal

abbrev pub invariant-loop-part : goal.invariant-loop-part
invariant-loop-part g l =
    (l.total ≡ sum (map g.P.Portion.portion (take l.part-index l.parts)))
    × (l.total ≤ l.part-index * (2 ^ 64 - 1))
