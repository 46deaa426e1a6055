-- From a table of shares to the rule of a closing.
use Rattle.std.proofs.Common.{◌≡◌, ℕ, ◌≤◌, List, map, length, take, ℤ, sym, ap, ◌∙◌, subst, arith}
use lib.ListN.{length-map}
use Rattle.std.proofs.lemmas.List.{take_all}
use Rattle.faults.specs.declared.fault.Fault.{Fault}
use Rattle.faults.specs.declared.fault.Fault.TheVariants.{AccountRange}
use Rattle.sums.specs.Verdict.{Verdict, accept, ◌then◌, scan, scan_one}
use Rattle.sharing.specs.declared.shares.Shares.{Shares}
use Rattle.sharing.specs.Rule.{Rule}
use Rattle.sharing.specs.SharedOut.{SharedOut}
use Rattle.sharing.specs.Shares.{shared}
use Rattle.accounts.specs.declared.customer.Customer.{Customer}
use Rattle.accounts.specs.declared.supplier.Supplier.{Supplier}
use Rattle.accounts.specs.declared.withdrawal.WithdrawalRow.{WithdrawalRow}
use Rattle.accounts.specs.Posting.{settles, chargeable}
use Rattle.accounts.specs.Withdrawals.{net}
use Rattle.law.specs.Ledger.{nets}
use Rattle.law.specs.Verdicts.{withdrawal_verdict, settling_verdict, charging_verdict, closing_verdict}
use Rattle.law.proofs.Accepted.{withdrawals_accepted}
use Rattle.planning.proofs.Planning.{next}

module _ (ys : List Customer) (settled : ℕ) (rows : List WithdrawalRow) (few : length ys ≤ 256) (taken : accept ≡ withdrawal_verdict ys settled rows) where
  pub few_rows : length rows ≤ 256
  few_rows = let h = sym (length-map rows net) ∙ (withdrawals_accepted ys settled rows (sym taken)).whole_book in omega arith

  module _ (r : Rule) (grains z : ℤ) (same : z ≡ grains) (s : Shares) (out : SharedOut r z (map net (take 256 rows)) s) where
    -- all rows have a share
    pub all_shared : SharedOut r grains (nets rows) s
    all_shared =
        subst (λ (y : ℤ). SharedOut r y (nets rows) s) same (subst (λ (ws : List WithdrawalRow). SharedOut r z (map net ws) s) (take_all 256 rows few_rows) out)

    pub closing_told : (xs : List Supplier) (v : Verdict Fault) (cents : List ℤ) → cents ≡ s.cents.items → accept ≡ scan_one settles AccountRange 0 xs → v ≡ scan chargeable AccountRange 0 ys cents
        → v ≡ closing_verdict r xs ys settled grains rows
    closing_told xs v cents listed a e =
        let charged : Verdict Fault = charging_verdict ys (shared r grains (nets rows)) in
        let due : cents ≡ shared r grains (nets rows) = listed ∙ all_shared.value in
        next (withdrawal_verdict ys settled rows) (settling_verdict xs then charged) v taken (next (settling_verdict xs) charged v a (e ∙ ap (λ (zs : List ℤ). scan chargeable AccountRange 0 ys zs) due))
