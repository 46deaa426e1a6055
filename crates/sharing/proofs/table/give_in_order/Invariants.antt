use Rattle.std.proofs.Common.{◌≡◌, map, take, sum}
use Rattle.sharing.specs.Shares.{shares}
use Rattle.sharing.proofs.table.give_in_order.Given as goal

abbrev pub invariant-loop-item : goal.invariant-loop-item
invariant-loop-item g l =
    (l.before ≡ sum (take l.item-index (map g.P.Portion.portion l.parts)))
    × (l.given.items ≡ shares g.S.SharingRule.share l.cents 0 l.total (take l.item-index (map g.P.Portion.portion l.parts)))
