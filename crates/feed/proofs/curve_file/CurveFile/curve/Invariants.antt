use Rattle.std.proofs.Common.{◌≡◌, min, map, length, take}
use Rattle.std.specs.List.{range_with_len}
use Rattle.feed.specs.CurveFile.{step_in}
use Rattle.feed.proofs.curve_file.CurveFile.curve.Given as goal

abbrev pub invariant-loop-i : goal.invariant-loop-i
invariant-loop-i l = (take l.i l.steps ≡ map (step_in l.self.bytes.now) (range_with_len l.first l.i)) × (length l.steps ≡ min l.fn.count 9)
