use Rattle.std.proofs.Common.{arith}
use Rattle.books.proofs.Changing.{mapped_more}
use Rattle.books.proofs.changes.change_all.Goals as goal

pub loop-account-preserved : goal.loop-account-preserved
loop-account-preserved g c becomes answers =
    mapped_more becomes c.args.accounts.now c.loop-account.accounts c.loop-account.account-index c.account-item.result c.change.result (omega arith) (c.loop-account.invariant becomes answers) c.account-item.is (answers _ _ c.change.ensures)
