use Rattle.std.proofs.Common.{arith}
use Rattle.feed_writer.specs.Bytes.{bytes32, withdrawal_bytes}
use Rattle.feed_writer.proofs.Buffers.{follows}
use Rattle.feed_writer.proofs.put.WholePartWithdrawalRow.put.Goals as goal

pub returns-clause-holds : goal.returns-clause-holds
unfolding withdrawal_bytes bytes32
returns-clause-holds c =
    follows _ _ _ _ _ _ _ (follows _ _ _ _ _ _ _ c.put.ensures
    c.put-2.ensures (omega arith) (omega arith))
    c.put-3.ensures (omega arith) (omega arith)
