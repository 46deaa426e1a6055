use Rattle.std.proofs.Common.{◌≡◌, ℕ, ◌*◌, ◌≤◌, min, List, length, ℤ, nat_abs, sym, ap, ◌∙◌, subst, w64, SFits, rules}
use Rattle.std.proofs.lemmas.Int.{to_z-of_z}
use Rattle.sharing.specs.Rule.{Rule}
use Rattle.sharing.specs.Shares.{grains_per_cent}
use Rattle.sharing.specs.SharedOut.{SharedOut}
use Rattle.accounts.specs.Limits.{most_customers}
use Rattle.accounts.specs.declared.supplier.Supplier.{Supplier}
use Rattle.accounts.specs.declared.customer.Customer.{Customer}
use Rattle.accounts.specs.declared.withdrawal.WithdrawalRow.{WithdrawalRow}
use Rattle.books.specs.Books.{suppliers, customers, room}
use Rattle.books.specs.Changes.{change_each, charged_or}
use Rattle.law.specs.Ledger.{nets}
use Rattle.law.specs.Verdicts.{closing_verdict}
use Rattle.law.proofs.Steps.{close_refused, close_taken}
use Rattle.ledger.proofs.Writing.{grains_are, closed_suppliers, closed_customers, carry_small, few}
use Rattle.ledger.proofs.stages.Cleared.close.Goals as goal

-- the verdict on the sum that the code makes is the verdict on the sum
at : (r : Rule) (xs : List Supplier) (ys : List Customer) (settled : ℕ) (rows : List WithdrawalRow) (y z : ℤ) → y ≡ z → closing_verdict r xs ys settled y rows ≡ closing_verdict r xs ys settled z rows
at r xs ys settled rows y z = ap (λ (w : ℤ). closing_verdict r xs ys settled w rows)

pub returns-in-Err : goal.returns-in-Err
returns-in-Err g c m =
    let fx : SFits w64 c.args.self.cost = search rules in
    let fy : SFits w64 c.args.self.closed.carry = search rules in
    let h = grains_are c.args.self.cost c.args.self.closed.carry c.args.self.seconds fx fy c.args.self.bounded c.args.self.timed c.args.self.closed.small in
    let e = c.in-Err.ensures.reply ∙ at g.S.SharingRule.share (suppliers c.args.suppliers.now) (customers c.args.customers.now) c.args.self.seconds c.args.rows.now _ _ h in
    close_refused m g.S.SharingRule.share c.args.self.closed.last c.args.self.hour c.args.self.closed.carry c.args.self.seconds c.args.self.cost (suppliers c.args.suppliers.now) (customers c.args.customers.now) (room c.args.suppliers.now) (room c.args.customers.now) c.args.rows.now c.in-Err.fault e

pub invariant_of-result : goal.invariant_of-result
invariant_of-result g c =
    let fx : SFits w64 c.args.self.cost = search rules in
    let fy : SFits w64 c.args.self.closed.carry = search rules in
    let h = grains_are c.args.self.cost c.args.self.closed.carry c.args.self.seconds fx fy c.args.self.bounded c.args.self.timed c.args.self.closed.small in
    let e = c.in-Ok.ensures.reply ∙ at g.S.SharingRule.share (suppliers c.args.suppliers.now) (customers c.args.customers.now) c.args.self.seconds c.args.rows.now _ _ h in
    let out = subst (λ (z : ℤ). SharedOut g.S.SharingRule.share z (nets c.args.rows.now) c.in-Ok.shares) h c.in-Ok.ensures.holds in
    let n : length (customers c.args.customers.now) ≤ most_customers = few most_customers (min c.args.customers.now.count (room c.args.customers.now)) c.args.customers.now.rows.now in
    let f : SFits w64 c.in-Ok.shares.carry = search rules in
    let small = carry_small g.S.SharingRule.share (suppliers c.args.suppliers.now) (customers c.args.customers.now) c.args.self.seconds c.args.self.cost c.args.self.closed.carry c.args.rows.now c.in-Ok.shares n c.args.self.bounded c.args.self.closed.small e out in
    record { small = subst (λ (z : ℤ). nat_abs z ≤ grains_per_cent * most_customers) (sym (to_z-of_z w64 c.in-Ok.shares.carry f)) small }

pub returns-in-Ok : goal.returns-in-Ok
returns-in-Ok g c m =
    let fx : SFits w64 c.args.self.cost = search rules in
    let fy : SFits w64 c.args.self.closed.carry = search rules in
    let h = grains_are c.args.self.cost c.args.self.closed.carry c.args.self.seconds fx fy c.args.self.bounded c.args.self.timed c.args.self.closed.small in
    let e = c.in-Ok.ensures.reply ∙ at g.S.SharingRule.share (suppliers c.args.suppliers.now) (customers c.args.customers.now) c.args.self.seconds c.args.rows.now _ _ h in
    let out = subst (λ (z : ℤ). SharedOut g.S.SharingRule.share z (nets c.args.rows.now) c.in-Ok.shares) h c.in-Ok.ensures.holds in
    let f : SFits w64 c.in-Ok.shares.carry = search rules in
    let charged = ap (change_each charged_or (customers c.args.customers.now)) (c.as_slice.ensures.value ∙ out.value) in
    close_taken m g.S.SharingRule.share c.args.self.closed.last c.args.self.hour c.args.self.closed.carry c.args.self.seconds c.args.self.cost (suppliers c.args.suppliers.now) (customers c.args.customers.now) (room c.args.suppliers.now) (room c.args.customers.now) c.args.rows.now _ _ _ _ _
    e
    (to_z-of_z w64 c.in-Ok.shares.carry f ∙ out.carry)
    (c.settle.ensures.after ∙ closed_suppliers g.S.SharingRule.share (suppliers c.args.suppliers.now) (customers c.args.customers.now) c.args.self.seconds _ c.args.rows.now e)
    (c.charge.ensures.after ∙ charged ∙ closed_customers g.S.SharingRule.share (suppliers c.args.suppliers.now) (customers c.args.customers.now) c.args.self.seconds _ c.args.rows.now e)
    c.settle.ensures.room
    c.charge.ensures.room
