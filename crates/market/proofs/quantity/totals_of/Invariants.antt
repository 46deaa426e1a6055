use Rattle.std.proofs.Common.{map, take, length}
use Rattle.market.specs.Totals.{Tallies}
use Rattle.market.proofs.quantity.totals_of.Given as goal

abbrev pub invariant-loop-place : goal.invariant-loop-place
invariant-loop-place g l =
    Tallies (take (length l.yielded) (map g.P.Placed.place l.places)) (take (length l.yielded) (map g.R.Scheduled.scheduled l.rows)) l.totals
