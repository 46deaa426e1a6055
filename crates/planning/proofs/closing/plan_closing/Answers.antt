use Rattle.std.proofs.Common.{◌≡◌, ℕ, ◌≤◌, List, length, ℤ, ap, ◌∙◌, arith, w64, SFits, rules}
use Rattle.std.proofs.lemmas.Result.{err_from_is_err_and}
use Rattle.std.proofs.lemmas.Int.{to_z-of_z}
use Rattle.accounts.specs.declared.customer.Customer.{Customer}
use Rattle.accounts.specs.declared.supplier.Supplier.{Supplier}
use Rattle.accounts.specs.declared.withdrawal.WithdrawalRow.{WithdrawalRow}
use Rattle.law.specs.Verdicts.{closing_verdict}
use Rattle.sharing.specs.Rule.{Rule}
use Rattle.planning.proofs.Charging.{all_shared, closing_told}
use Rattle.planning.proofs.closing.plan_closing.Goals as goal

-- the verdict on the accounts is that on their books
moved : (r : Rule) (xs xs' : List Supplier) (ys ys' : List Customer) (settled : ℕ) (grains : ℤ) (rows : List WithdrawalRow) → xs ≡ xs' → ys ≡ ys'
    → closing_verdict r xs ys settled grains rows ≡ closing_verdict r xs' ys' settled grains rows
moved r xs xs' ys ys' settled grains rows e f =
    ap (λ (zs : List Supplier). closing_verdict r zs ys settled grains rows) e ∙ ap (λ (zs : List Customer). closing_verdict r xs' zs settled grains rows) f

pub returns-in_err-check_charge : goal.returns-in_err-check_charge
returns-in_err-check_charge g c =
    let p = err_from_is_err_and c.from_residual-in_err-check_charge.result c.from_residual-in_err-check_charge.ensures.1 in
    let all = ap length c.accounts-charged.ensures.all in
    let few : length c.accounts-charged.result.now ≤ 256 = omega (arith, c.accounts-charged.ensures.few) in
    let f : SFits w64 c.args.grains = search rules in
    let e = closing_told c.accounts-charged.result.now c.args.settled c.args.rows.now few c.in_ok-check_withdrawals.ensures g.S.SharingRule.share c.args.grains _ (to_z-of_z w64 c.args.grains f) c.share_out-shares.result c.share_out-shares.ensures c.accounts-paid.result.now _ _ c.as_slice.ensures.value c.in_ok-check_settle.ensures c.in_err-check_charge.ensures in
    rw (p.1, p.2) (record { reply = e ∙ moved g.S.SharingRule.share _ _ _ _ c.args.settled c.args.grains c.args.rows.now c.accounts-paid.ensures.all c.accounts-charged.ensures.all; holds = tt })

pub returns : goal.returns
returns g c =
    let all = ap length c.accounts-charged.ensures.all in
    let few : length c.accounts-charged.result.now ≤ 256 = omega (arith, c.accounts-charged.ensures.few) in
    let f : SFits w64 c.args.grains = search rules in
    let e = closing_told c.accounts-charged.result.now c.args.settled c.args.rows.now few c.in_ok-check_withdrawals.ensures g.S.SharingRule.share c.args.grains _ (to_z-of_z w64 c.args.grains f) c.share_out-shares.result c.share_out-shares.ensures c.accounts-paid.result.now _ _ c.as_slice.ensures.value c.in_ok-check_settle.ensures c.in_ok-check_charge.ensures in
    record {
      reply = e ∙ moved g.S.SharingRule.share _ _ _ _ c.args.settled c.args.grains c.args.rows.now c.accounts-paid.ensures.all c.accounts-charged.ensures.all;
      holds = all_shared c.accounts-charged.result.now c.args.settled c.args.rows.now few c.in_ok-check_withdrawals.ensures g.S.SharingRule.share c.args.grains _ (to_z-of_z w64 c.args.grains f) c.share_out-shares.result c.share_out-shares.ensures;
    }
