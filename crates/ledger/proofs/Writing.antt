-- What the books' writes leave once the plan's checks have accepted, and the ledger's bounds.
use Rattle.std.proofs.Common.{◌≡◌, ℕ, ◌+◌, ◌*◌, ◌≤◌, min, List, map, length, take, ℤ, pos, ◌+ℤ◌, nat_abs, sum, sym, ◌∙◌, arith, length-take, w64, SFits, to_z, of_z}
use borrow.Author.Differences.{ints}
use Rattle.std.proofs.lemmas.List.{length-map}
use Rattle.std.proofs.lemmas.Int.{to_z-of_z}
use Rattle.sums.specs.Sums.{each}
use Rattle.sums.specs.Verdict.{Verdict, accept, ◌then◌}
use Rattle.sums.proofs.Verdicts.{both}
use Rattle.maps.specs.Market.{Market}
use Rattle.curves.specs.declared.step.Step.{Step as CurveStep}
use Rattle.market.specs.Products.{Reserves}
use Rattle.sharing.specs.Rule.{Rule}
use Rattle.sharing.specs.Shares.{grains_per_cent, whole, shared}
use Rattle.accounts.specs.Limits.{most_customers}
use Rattle.accounts.specs.declared.supplier.Supplier.{Supplier}
use Rattle.accounts.specs.declared.customer.Customer.{Customer}
use Rattle.accounts.specs.declared.schedule.ScheduleRow.{ScheduleRow}
use Rattle.accounts.specs.declared.withdrawal.WithdrawalRow.{WithdrawalRow}
use Rattle.accounts.specs.declared.posting.Terms.{Terms}
use Rattle.accounts.specs.Posting.{post_clearing, post_interval, settle, charge}
use Rattle.accounts.specs.Withdrawals.{net}
use Rattle.accounts.specs.Terms.{post_by}
use Rattle.books.specs.Changes.{change_each, posted_or, settled_or, charged_or}
use Rattle.law.specs.Ledger.{hour_seconds, schedules, nets}
use Rattle.law.specs.Verdicts.{schedule_verdict, seconds_verdict, posting_verdict, clearing_verdict, interval_verdict, withdrawal_verdict, settling_verdict, charging_verdict, closing_verdict}
use Rattle.law.proofs.Accepted.{ScheduleTaken, clearing_accepted, interval_accepted, WithdrawalsTaken, withdrawals_accepted}
use Rattle.law.proofs.Kept.{closing_in_range}
use Rattle.books.proofs.Accepted.{each_posted, map_settled, each_charged}
use Rattle.sharing.proofs.Law.{length_shares}
use Rattle.sharing.specs.SharedOut.{SharedOut}
use Rattle.sharing.specs.declared.shares.Shares.{Shares}
use Rattle.faults.specs.declared.fault.Fault.{Fault}
use Rattle.planning.specs.Plans.{most_cost}

-- ---- posting
module _ (m : Market) (xs : List Supplier) (shadow targets : List ℕ) (curves : List (List CurveStep)) (rows : List ScheduleRow) (t : Terms) where
  whole_sheet : ScheduleTaken m xs shadow targets curves rows → length rows ≡ length xs
  whole_sheet s = sym (length-map rows (λ w. w.reserves)) ∙ s.whole_book

  pub cleared_each : ((a : Supplier) (r : Reserves) → post_by t a r ≡ post_clearing m shadow a r) → accept ≡ clearing_verdict m xs shadow targets curves rows
      → change_each (posted_or t) xs rows ≡ each (post_clearing m shadow) xs (schedules rows)
  cleared_each h e =
      let a = both (schedule_verdict m xs shadow targets curves rows) (posting_verdict (post_clearing m shadow) xs rows) (sym e) in
      each_posted t (post_clearing m shadow) h xs rows (whole_sheet (clearing_accepted m xs shadow targets curves rows (sym e))) a.1

  pub settled_each : (settled seconds : ℕ) → ((a : Supplier) (r : Reserves) → post_by t a r ≡ post_interval m shadow seconds a r) → accept ≡ interval_verdict m xs settled seconds shadow targets curves rows
      → change_each (posted_or t) xs rows ≡ each (post_interval m shadow seconds) xs (schedules rows)
  settled_each settled seconds h e =
      let a = both (schedule_verdict m xs shadow targets curves rows) (seconds_verdict settled seconds then posting_verdict (post_interval m shadow seconds) xs rows) (sym e) in
      let b = both (seconds_verdict settled seconds) (posting_verdict (post_interval m shadow seconds) xs rows) a.1 in
      each_posted t (post_interval m shadow seconds) h xs rows (whole_sheet (interval_accepted m xs settled seconds shadow targets curves rows (sym e)).0) b.1

  pub time_left : (settled seconds : ℕ) → accept ≡ interval_verdict m xs settled seconds shadow targets curves rows → settled + seconds ≤ hour_seconds
  time_left settled seconds e = (interval_accepted m xs settled seconds shadow targets curves rows (sym e)).1

-- ---- closing
module _ (r : Rule) (xs : List Supplier) (ys : List Customer) (settled : ℕ) (grains : ℤ) (rows : List WithdrawalRow) (e : accept ≡ closing_verdict r xs ys settled grains rows) where
  abbrev charging : Verdict Fault
  charging = charging_verdict ys (shared r grains (nets rows))

  checked : (withdrawal_verdict ys settled rows ≡ accept) × ((settling_verdict xs then charging) ≡ accept)
  checked = both (withdrawal_verdict ys settled rows) (settling_verdict xs then charging) (sym e)

  pub withdrawn : WithdrawalsTaken ys settled rows
  withdrawn = withdrawals_accepted ys settled rows checked.0

  pub closed_suppliers : map settled_or xs ≡ map settle xs
  closed_suppliers = map_settled xs (both (settling_verdict xs) charging checked.1).0

  pub closed_customers : change_each charged_or ys (shared r grains (nets rows)) ≡ each charge ys (shared r grains (nets rows))
  closed_customers = each_charged ys (shared r grains (nets rows)) (length_shares r (whole grains) 0 (sum (nets rows)) (nets rows) ∙ withdrawn.whole_book) (both (settling_verdict xs) charging checked.1).1

-- no book has more accounts than its kind allows
pub few : {A : Type 0} (most k : ℕ) (xs : List A) → length (take (min most k) xs) ≤ most
few most k xs = let h = length-take (min most k) xs in omega arith

-- the new carry is below a cent for each customer that a book can have
pub carry_small : (r : Rule) (xs : List Supplier) (ys : List Customer) (settled : ℕ) (c k : ℤ) (rows : List WithdrawalRow) (s : Shares) → length ys ≤ most_customers
    → nat_abs c ≤ most_cost * (hour_seconds + settled) → nat_abs k ≤ grains_per_cent * most_customers → accept ≡ closing_verdict r xs ys settled (c +ℤ k) rows → SharedOut r (c +ℤ k) (nets rows) s
    → nat_abs s.carry ≤ grains_per_cent * most_customers
carry_small r xs ys settled c k rows s few bc bk e out =
    let w = withdrawn r xs ys settled (c +ℤ k) rows e in
    let good = out.law (closing_in_range c k ys settled rows bc bk w) in
    let lo = good.carry_not_negative in
    let hi = good.carry_below in
    let n = w.whole_book in
    omega (arith, ints)

-- ---- the hour's cost
pub cost_fits : (x y : ℤ) (settled seconds : ℕ) → nat_abs x ≤ most_cost * (hour_seconds + settled) → nat_abs y ≤ most_cost * seconds → settled + seconds ≤ hour_seconds → SFits w64 (x +ℤ y)
cost_fits x y settled seconds a b h = omega (arith, ints)

pub cost_bounded : (x y : ℤ) (settled seconds : ℕ) → nat_abs x ≤ most_cost * (hour_seconds + settled) → nat_abs y ≤ most_cost * seconds → nat_abs (x +ℤ y) ≤ most_cost * (hour_seconds + (settled + seconds))
cost_bounded x y settled seconds a b = omega (arith, ints)

pub grains_fit : (c k : ℤ) (settled : ℕ) → nat_abs c ≤ most_cost * (hour_seconds + settled) → settled ≤ hour_seconds → nat_abs k ≤ grains_per_cent * most_customers → SFits w64 (c +ℤ k)
grains_fit c k settled a h b = omega (arith, ints)

pub from_none : (z : ℤ) → z ≡ pos 0 +ℤ z
from_none z = omega (arith, ints)

-- the sum as the code makes it
pub grains_are : (c k : ℤ) (settled : ℕ) → SFits w64 c → SFits w64 k → nat_abs c ≤ most_cost * (hour_seconds + settled) → settled ≤ hour_seconds → nat_abs k ≤ grains_per_cent * most_customers
    → to_z w64 (of_z w64 (to_z w64 (of_z w64 c) +ℤ to_z w64 (of_z w64 k))) ≡ c +ℤ k
grains_are c k settled fc fk a h b = let f = grains_fit c k settled a h b in simp to_z-of_z
