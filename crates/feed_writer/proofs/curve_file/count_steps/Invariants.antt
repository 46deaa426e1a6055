use Rattle.std.proofs.Common.{◌≡◌, ◌*◌, ◌≤◌, map, length, take}
use Rattle.curves.specs.Book.{steps_of}
use Rattle.feed_writer.specs.CurveBytes.{all_steps}
use Rattle.feed_writer.proofs.curve_file.count_steps.Given as goal

abbrev pub invariant-loop-curve : goal.invariant-loop-curve
invariant-loop-curve l = (l.count ≡ length (all_steps (take l.curve-index (map steps_of l.curves)))) × (l.count ≤ 8 * l.curve-index)
