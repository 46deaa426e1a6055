use Rattle.std.proofs.Common.{◌≡◌, map, take}
use Rattle.std.specs.List.{range_with_len}
use Rattle.feed.proofs.parts.Rows.fill.Given as goal

abbrev pub invariant-loop-i : goal.invariant-loop-i
invariant-loop-i g l = take l.i l.places ≡ map (g.R.Row.row_at l.self.numbers.now l.self.rest.now) (range_with_len 0 l.i)
