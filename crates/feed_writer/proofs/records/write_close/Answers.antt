use Rattle.std.proofs.Common.{length, refl, arith}
use Rattle.std.proofs.lemmas.List.{length-append}
use Rattle.feed.specs.Entries.{closing}
use Rattle.feed_writer.specs.Bytes.{closing_bytes}
use Rattle.feed_writer.specs.Lengths.{length_header}
use Rattle.feed_writer.proofs.Buffers.{follows, length_row_numbers, length_withdrawals}
use Rattle.feed_writer.proofs.Trips.{wrote}
use Rattle.feed_writer.proofs.records.write_close.Goals as goal

pub returns : goal.returns
unfolding closing_bytes
returns c =
    let s = c.in_ok-length.ensures.fits in
    let a = s.whole in
    let b = s.fits in
    let h = length_header 6 0 (length c.args.rows.now) in
    let d = length_row_numbers (λ r. r.number) c.args.rows.now in
    let e = length_withdrawals c.args.rows.now in
    wrote (closing c.args.rows.now) _ c.args.buffer.now _ refl s
    (record { numbers = c.put_each-at.ensures.fits; rows = c.put_each.ensures.fits })
    (follows _ _ _ _ _ _ _ c.in_ok-length.ensures.holds
    (follows _ _ _ _ _ _ _ c.put_each-at.ensures.holds c.put_each.ensures.holds (omega arith) (omega arith))
    (omega arith) (simp length-append (omega arith)))
