-- Whether a call is accepted: its checks in their order, of which the first that fails is told. The number of the
-- refusal stands in brackets.
use Rattle.std.specs.Prelude.{ℕ, ◌+◌, ◌-◌, Bool, true, not, ◌&&◌, List, ℤ, Some, None, sum, Option, ◌==◌, nat_le, nat_lt}
use Rattle.faults.specs.declared.fault.Fault.{Fault}
use Rattle.faults.specs.declared.fault.Fault.TheVariants.{
  WrongStage,
  HourOutOfOrder,
  BeyondCapability,
  IntervalLength,
  HourIncomplete,
  NegativeNet,
  WithdrawalTotal,
  AccountRange,
}
use Rattle.sums.specs.Verdict.{Verdict, ◌then◌, want, scan, scan_one}
use Rattle.maps.specs.Market.{Market}
use Rattle.curves.specs.declared.step.Step.{Step}
use Rattle.market.specs.Products.{Reserves}
use Rattle.market.specs.Prices.{quantity}
use Rattle.market.specs.Claims.{price_verdict}
use Rattle.sharing.specs.Rule.{Rule, most_parts}
use Rattle.sharing.specs.Shares.{shared}
use Rattle.accounts.specs.declared.supplier.Supplier.{Supplier}
use Rattle.accounts.specs.declared.customer.Customer.{Customer}
use Rattle.accounts.specs.declared.schedule.ScheduleRow.{ScheduleRow}
use Rattle.accounts.specs.declared.withdrawal.WithdrawalRow.{WithdrawalRow}
use Rattle.accounts.specs.Enrolment.{fields_verdict}
use Rattle.accounts.specs.Limits.{most_suppliers, most_customers}
use Rattle.accounts.specs.Capability.{able}
use Rattle.accounts.specs.Posting.{post_clearing, post_interval, stays, settles, chargeable}
use Rattle.accounts.specs.Withdrawals.{has_net_lem}
use Rattle.books.specs.Enrolling.{new_verdict}
use Rattle.books.specs.Sheets.{sheet_verdict}
use Rattle.law.specs.Ledger.{
  Stage,
  at_rest,
  opened,
  cleared,
  State,
  Args,
  enrol_supplier,
  enrol_customer,
  open_hour,
  clear,
  interval,
  close,
  void,
  hour_seconds,
  places,
  schedules,
  nets,
  grains_due,
}

-- the last hour that there is
abbrev pub last_hour : ℕ
last_hour = 499999

-- ---- the stage
abbrev pub rank : Stage → ℕ
rank at_rest = 0
rank opened = 1
rank cleared = 2

abbrev pub at : Stage → Stage → Bool
at here there = rank here == rank there

-- [4] the ledger itself knows no feed, so the offset is 0: where a feed asks, the layer above tells the record's
abbrev pub stage_verdict : Bool → Verdict Fault
stage_verdict taken = want taken (WrongStage 0)

-- ---- enrolment
-- [11, 12, 13] a new number, room in the book, and the supplier's fields
abbrev pub supplier_verdict : Market → List Supplier → ℕ → (number location kind upper response : ℕ) → Verdict Fault
supplier_verdict m suppliers room number location kind upper response =
    new_verdict (λ a. a.number) most_suppliers room number suppliers then fields_verdict m.locations location kind upper response

-- [11, 12]
abbrev pub customer_verdict : List Customer → ℕ → (number : ℕ) → Verdict Fault
customer_verdict customers room number = new_verdict (λ a. a.number) most_customers room number customers

-- ---- opening
abbrev pub later : Option ℕ → ℕ → Bool
later None hour = true
later (Some last) hour = nat_lt last hour

-- [21] there is such an hour, and it is above the last closed
abbrev pub hour_verdict : Option ℕ → ℕ → Verdict Fault
hour_verdict last hour = want (nat_le hour last_hour && later last hour) (HourOutOfOrder last)

-- ---- sheets
-- [33] no supplier is scheduled for more than it can do
abbrev pub capability_verdict : List Supplier → List ScheduleRow → Verdict Fault
capability_verdict suppliers rows = scan able BeyondCapability 0 suppliers rows

-- [31 to 36] a schedule with its prices, which are held to the quantities of this schedule
abbrev pub schedule_verdict : Market → List Supplier → (shadow targets : List ℕ) → List (List Step) → List ScheduleRow → Verdict Fault
schedule_verdict m suppliers shadow targets curves rows =
    sheet_verdict (λ a. a.number) (λ w. w.number) suppliers rows
    then capability_verdict suppliers rows
    then price_verdict m shadow targets curves (quantity m (places suppliers) (schedules rows))

-- [45] every supplier is in its ranges, and stays there
abbrev pub posting_verdict : (Supplier → Reserves → Supplier) → List Supplier → List ScheduleRow → Verdict Fault
posting_verdict post suppliers rows = scan (stays post) AccountRange 0 suppliers rows

abbrev pub clearing_verdict : Market → List Supplier → (shadow targets : List ℕ) → List (List Step) → List ScheduleRow → Verdict Fault
clearing_verdict m suppliers shadow targets curves rows =
    schedule_verdict m suppliers shadow targets curves rows then posting_verdict (post_clearing m shadow) suppliers rows

-- [41] the interval has seconds, and the hour has as many left
abbrev pub seconds_verdict : (settled seconds : ℕ) → Verdict Fault
seconds_verdict settled seconds = want (nat_lt 0 seconds && nat_le (settled + seconds) hour_seconds) (IntervalLength (hour_seconds - settled))

abbrev pub interval_verdict : Market → List Supplier → (settled seconds : ℕ) (shadow targets : List ℕ) → List (List Step) → List ScheduleRow → Verdict Fault
interval_verdict m suppliers settled seconds shadow targets curves rows =
    schedule_verdict m suppliers shadow targets curves rows
    then seconds_verdict settled seconds
    then posting_verdict (post_interval m shadow seconds) suppliers rows

-- ---- closing
-- [42] the intervals make up the hour
abbrev pub complete_verdict : (settled : ℕ) → Verdict Fault
complete_verdict settled = want (settled == hour_seconds) (HourIncomplete (hour_seconds - settled))

-- [43] no net withdrawal is below 0
abbrev pub nets_verdict : List WithdrawalRow → Verdict Fault
nets_verdict rows = scan_one has_net_lem NegativeNet 0 rows

-- [44] something was withdrawn, and no more than a rule shares among
abbrev pub total_verdict : (total : ℕ) → Verdict Fault
total_verdict total = want (nat_lt 0 total && nat_le total most_parts) (WithdrawalTotal total)

-- [31, 32, 42, 43, 44] the sheet of withdrawals
abbrev pub withdrawal_verdict : List Customer → (settled : ℕ) → List WithdrawalRow → Verdict Fault
withdrawal_verdict customers settled rows =
    sheet_verdict (λ a. a.number) (λ w. w.number) customers rows
    then complete_verdict settled
    then nets_verdict rows
    then total_verdict (sum (nets rows))

-- [45] every supplier can be settled
abbrev pub settling_verdict : List Supplier → Verdict Fault
settling_verdict suppliers = scan_one settles AccountRange 0 suppliers

-- [45] every customer can be charged
abbrev pub charging_verdict : List Customer → List ℤ → Verdict Fault
charging_verdict customers shares = scan chargeable AccountRange 0 customers shares

abbrev pub closing_verdict : Rule → List Supplier → List Customer → (settled : ℕ) (grains : ℤ) → List WithdrawalRow → Verdict Fault
closing_verdict r suppliers customers settled grains rows =
    withdrawal_verdict customers settled rows
    then settling_verdict suppliers
    then charging_verdict customers (shared r grains (nets rows))

-- ---- all calls
abbrev pub verdict : Market → Rule → State → Args → Verdict Fault
verdict m r s (enrol_supplier number location kind upper response) =
    stage_verdict (at s.stage at_rest) then supplier_verdict m s.suppliers s.supplier_room number location kind upper response
verdict m r s (enrol_customer number) =
    stage_verdict (at s.stage at_rest) then customer_verdict s.customers s.customer_room number
verdict m r s (open_hour hour) =
    stage_verdict (at s.stage at_rest) then hour_verdict s.last hour
verdict m r s (clear shadow targets curves rows) =
    stage_verdict (at s.stage opened) then clearing_verdict m s.suppliers shadow targets curves rows
verdict m r s (interval seconds shadow targets curves rows) =
    stage_verdict (at s.stage cleared) then interval_verdict m s.suppliers s.seconds seconds shadow targets curves rows
verdict m r s (close rows) =
    stage_verdict (at s.stage cleared) then closing_verdict r s.suppliers s.customers s.seconds (grains_due s) rows
verdict m r s void = stage_verdict (not (at s.stage at_rest))
