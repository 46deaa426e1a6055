use Rattle.books.specs.Books.{suppliers, room}
use Rattle.settlement.specs.declared.course.Ledger.TheVariants.{Opened, Cleared}
use Rattle.settlement.proofs.Found.{voided}
use Rattle.settlement.proofs.course.Ledger.into_rest.Goals as goal

pub returns-in-Opened : goal.returns-in-Opened
returns-in-Opened c m rule ys q =
    voided m rule (Opened c.in-Opened.l) c.args.self c.in-Opened.is (suppliers c.args.suppliers.now) ys (room c.args.suppliers.now) q _ (c.void.ensures m rule ys q)

pub returns-in-Cleared : goal.returns-in-Cleared
returns-in-Cleared c m rule ys q =
    voided m rule (Cleared c.in-Cleared.l) c.args.self c.in-Cleared.is (suppliers c.args.suppliers.now) ys (room c.args.suppliers.now) q _ (c.void-in-Cleared.ensures m rule ys q)
