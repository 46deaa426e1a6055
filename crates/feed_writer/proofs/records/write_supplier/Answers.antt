use Rattle.std.proofs.Common.{refl, arith, rules}
use Rattle.feed.specs.Entries.{supplier}
use Rattle.feed_writer.specs.Bytes.{bytes16, bytes32, supplier_bytes}
use Rattle.feed_writer.specs.Lengths.{length_header}
use Rattle.feed_writer.proofs.Buffers.{follows}
use Rattle.feed_writer.proofs.Trips.{wrote}
use Rattle.feed_writer.proofs.records.write_supplier.Goals as goal

pub returns : goal.returns
unfolding supplier_bytes bytes16 bytes32
returns c =
    let s = c.in_ok-length.ensures.fits in
    let a = s.whole in
    let b = s.fits in
    let h = length_header 1 0 0 in
    wrote (supplier c.args.new.now) _ c.args.buffer.now _ refl s (search rules)
    (follows _ _ _ _ _ _ _ c.in_ok-length.ensures.holds
    (follows _ _ _ _ _ _ _ (follows _ _ _ _ _ _ _ (follows _ _ _ _ _ _ _ (follows _ _ _ _ _ _ _ c.put.ensures
    c.put-2.ensures (omega arith) (omega arith))
    c.put-3.ensures (omega arith) (omega arith))
    c.put-4.ensures (omega arith) (omega arith))
    c.put-5.ensures (omega arith) (omega arith))
    (omega arith) (omega arith))
