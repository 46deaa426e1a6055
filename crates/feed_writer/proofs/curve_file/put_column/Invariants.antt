use Rattle.std.proofs.Common.{◌≡◌, ◌+◌, ◌*◌, map, length, take}
use Rattle.std.specs.List.{flat_map}
use Rattle.curves.specs.Book.{steps_of}
use Rattle.feed_writer.specs.Bytes.{written}
use Rattle.feed_writer.specs.CurveBytes.{all_steps}
use Rattle.feed_writer.proofs.curve_file.put_column.Given as goal

abbrev pub invariant-loop-curve : goal.invariant-loop-curve
invariant-loop-curve g l =
    (l.next ≡ l.at + g.C.Part.SIZE * length (all_steps (take l.curve-index (map steps_of l.curves))))
    × (l.out ≡ written l.at (flat_map g.C.Part.bytes (all_steps (take l.curve-index (map steps_of l.curves)))) l.initial.out)
