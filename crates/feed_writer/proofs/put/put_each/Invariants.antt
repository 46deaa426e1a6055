use Rattle.std.proofs.Common.{◌≡◌, ◌+◌, ◌*◌, take}
use Rattle.std.specs.List.{flat_map, AllByRecursion}
use Rattle.feed_writer.specs.Bytes.{written}
use Rattle.feed_writer.proofs.put.put_each.Given as goal

abbrev pub invariant-loop-item : goal.invariant-loop-item
invariant-loop-item g l =
    (l.next ≡ l.at + g.P.Part.SIZE * l.item-index)
    × (l.out ≡ written l.at (flat_map g.P.Part.bytes (take l.item-index l.items)) l.initial.out)
    × AllByRecursion g.P.Part.fitting (take l.item-index l.items)
