use Rattle.std.proofs.Common.{arith}
use Rattle.feed.specs.Kinds.{code_of}
use Rattle.feed_writer.specs.Lengths.{length_header, length_bytes32}
use Rattle.feed_writer.proofs.Buffers.{follows}
use Rattle.feed_writer.proofs.records.write_number.Goals as goal

pub returns : goal.returns
returns c =
    let s = c.in_ok-length.ensures.fits in
    let a = s.whole in
    let b = s.fits in
    let h = length_header (code_of c.args.kind) 0 0 in
    let d = length_bytes32 c.args.number in
    record {
      reply = c.in_ok-length.ensures.reply;
      holds = follows _ _ _ _ _ _ _ c.in_ok-length.ensures.holds c.put.ensures (omega arith) (omega arith);
      fits = s;
    }
