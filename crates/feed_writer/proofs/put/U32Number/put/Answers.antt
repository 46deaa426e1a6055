use Rattle.std.proofs.Common.{◌∙◌, arith}
use Rattle.feed_writer.specs.Bytes.{bytes32}
use Rattle.feed_writer.proofs.Buffers.{put_written}
use Rattle.feed_writer.proofs.put.U32Number.put.Goals as goal

pub returns : goal.returns
unfolding bytes32
returns c = put_written _ _ (bytes32 c.args.self) _ _ (c.copy_from_slice.ensures.after ∙ c.to_le_bytes.ensures) (omega arith)
