use Rattle.std.proofs.Common.{◌∙◌, arith, rules}
use Rattle.feed.specs.Kinds.{code_of}
use Rattle.feed_writer.specs.Bytes.{bytes16, header}
use Rattle.feed_writer.proofs.Buffers.{put_written}
use Rattle.feed_writer.proofs.records.start.Goals as goal

pub returns : goal.returns
unfolding header bytes16
returns c = record {
  reply = search rules;
  holds = put_written 0 5 (header (code_of c.args.kind) c.args.n c.args.m) c.args.buffer.now c.copy_from_slice.new.self (c.copy_from_slice.ensures.after ∙ search rules) (omega arith);
  fits = search rules;
}
