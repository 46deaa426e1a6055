use Rattle.std.proofs.Common.{◌≡◌, ap, ◌∙◌, arith, w32, of_z, rules}
use Rattle.feed_writer.specs.Bytes.{bytes32, schedule_bytes, written}
use Rattle.feed_writer.proofs.Buffers.{follows}
use Rattle.feed_writer.proofs.put.WholePartScheduleRow.put.Goals as goal

pub returns-clause-holds : goal.returns-clause-holds
unfolding schedule_bytes bytes32
returns-clause-holds c =
    let z : c.cast_unsigned.result ≡ of_z w32 c.args.row.now.energy = search rules in
    let e = c.put.ensures ∙ ap (λ y. written c.args.at (bytes32 y) c.args.out.now) z in
    follows _ _ _ _ _ _ _ (follows _ _ _ _ _ _ _ (follows _ _ _ _ _ _ _ (follows _ _ _ _ _ _ _ e
    c.put-2.ensures (omega arith) (omega arith))
    c.put-3.ensures (omega arith) (omega arith))
    c.put-4.ensures (omega arith) (omega arith))
    c.put-5.ensures (omega arith) (omega arith)
