use Rattle.std.proofs.Common.{sym, ap, w64, SFits}
use Rattle.std.proofs.lemmas.Int.{to_z-of_z}
use Rattle.books.specs.Books.{suppliers, customers}
use Rattle.lines.specs.Closings.{account_texts}
use Rattle.lines.proofs.Puts.{grown_before, grown_same, grown_closes}
use Rattle.lines.proofs.Accounts.{closing_texts}
use Rattle.lines.proofs.closing.write_closing.Goals as goal

pub returns : goal.returns
returns c =
    let fits : SFits w64 c.args.carry = c.ranges.carry in
    let carry = simp to_z-of_z at c.line.ensures.grown in
    let charged = grown_same _ _ _ _ (ap (account_texts (λ a. a.number) (λ a. a.cents) 67 c.args.hour c.args.charged.now) c.accounts.ensures.all) c.accounts-2.ensures.grown in
    let paid = grown_same _ _ _ _ (ap (account_texts (λ a. a.number) (λ a. a.cents) 80 c.args.hour c.args.paid.now) c.accounts-3.ensures.all) c.accounts-4.ensures.grown in
    grown_closes _ _ _ _ _ c.new-tail.ensures.bytes c.new-tail.ensures.start c.start.ensures
    (grown_same _ _ _ _ (sym (closing_texts c.args.hour c.args.paid.now (suppliers c.args.suppliers.now) c.args.charged.now (customers c.args.customers.now) c.args.carry))
    (grown_before _ _ _ _ _ (grown_before _ _ _ _ _ carry charged) paid))
