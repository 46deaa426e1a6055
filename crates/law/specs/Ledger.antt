-- The ledger with its two books, the calls, and what an accepted call leaves.
use Rattle.std.specs.Prelude.{ℕ, ◌+◌, List, [], ◌∷◌, ◌++◌, map, ℤ, pos, ◌+ℤ◌, ◌*ℤ◌, Some, None, Option}
use Rattle.sums.specs.Sums.{each}
use Rattle.maps.specs.Market.{Market}
use Rattle.curves.specs.declared.step.Step.{Step}
use Rattle.market.specs.Products.{Reserves}
use Rattle.market.specs.Prices.{cost, cost_over_lem}
use Rattle.sharing.specs.Rule.{Rule}
use Rattle.sharing.specs.Shares.{shared, new_carry}
use Rattle.accounts.specs.declared.supplier.Supplier.{Supplier}
use Rattle.accounts.specs.declared.customer.Customer.{Customer}
use Rattle.accounts.specs.declared.schedule.ScheduleRow.{ScheduleRow}
use Rattle.accounts.specs.declared.withdrawal.WithdrawalRow.{WithdrawalRow}
use Rattle.accounts.specs.Enrolment.{new_supplier, new_customer}
use Rattle.accounts.specs.Posting.{post_clearing, post_interval, settle, forget, charge}
use Rattle.accounts.specs.Withdrawals.{net}

-- between hours; in an hour that is not cleared yet; in an hour that is
pub data Stage : Type 0 where
  at_rest : Stage
  opened : Stage
  cleared : Stage

-- the ledger and the accounts of its books; at rest hour, seconds and cost are 0
pub record State : Type 0 where
  pub stage : Stage
  -- the last closed hour
  pub last : Option ℕ
  -- the hour in hand
  pub hour : ℕ
  -- grains not yet charged
  pub carry : ℤ
  -- seconds settled of the hour in hand, and its cost in grains
  pub seconds : ℕ
  pub cost : ℤ
  pub suppliers : List Supplier
  pub customers : List Customer
  -- how many rows the tables of the books have
  pub supplier_room : ℕ
  pub customer_room : ℕ

-- a new ledger with empty books
abbrev pub new : ℕ → ℕ → State
new supplier_room customer_room = record {
  stage = at_rest;
  last = None;
  hour = 0;
  carry = pos 0;
  seconds = 0;
  cost = pos 0;
  suppliers = [];
  customers = [];
  supplier_room = supplier_room;
  customer_room = customer_room;
}

-- a call with its arguments
pub data Args : Type 0 where
  enrol_supplier : (number location kind upper response : ℕ) → Args
  enrol_customer : (number : ℕ) → Args
  open_hour : (hour : ℕ) → Args
  clear : (shadow targets : List ℕ) (curves : List (List Step)) (rows : List ScheduleRow) → Args
  interval : (seconds : ℕ) (shadow targets : List ℕ) (curves : List (List Step)) (rows : List ScheduleRow) → Args
  close : (rows : List WithdrawalRow) → Args
  void : Args

abbrev pub hour_seconds : ℕ
hour_seconds = 3600

-- what the books and the sheets show: locations, day-ahead schedules, schedules, net withdrawals
abbrev pub places : List Supplier → List ℕ
places xs = map (λ a. a.location) xs

abbrev pub aheads : List Supplier → List Reserves
aheads xs = map (λ a. a.ahead) xs

abbrev pub schedules : List ScheduleRow → List Reserves
schedules rows = map (λ w. w.reserves) rows

abbrev pub nets : List WithdrawalRow → List ℕ
nets rows = map net rows

-- the grains that a closing charges or carries on, and what it charges each customer, in cents
abbrev pub grains_due : State → ℤ
grains_due s = s.cost +ℤ s.carry

abbrev pub charges : Rule → State → List WithdrawalRow → List ℤ
charges r s rows = shared r (grains_due s) (nets rows)

-- the ledger at rest, with this last closed hour, this carry and these accounts
abbrev pub resting : State → Option ℕ → ℤ → List Supplier → List Customer → State
resting s last carry suppliers customers = record {
  stage = at_rest;
  last = last;
  hour = 0;
  carry = carry;
  seconds = 0;
  cost = pos 0;
  suppliers = suppliers;
  customers = customers;
  supplier_room = s.supplier_room;
  customer_room = s.customer_room;
}

-- the ledger in an hour, with these seconds settled, this cost and these suppliers
abbrev pub in_hour : State → Stage → (hour seconds : ℕ) → ℤ → List Supplier → State
in_hour s stage hour seconds cost suppliers = record {
  stage = stage;
  last = s.last;
  hour = hour;
  carry = s.carry;
  seconds = seconds;
  cost = cost;
  suppliers = suppliers;
  customers = s.customers;
  supplier_room = s.supplier_room;
  customer_room = s.customer_room;
}

-- what an accepted call leaves
abbrev pub after : Market → Rule → State → Args → State
after m r s (enrol_supplier number location kind upper response) =
    resting s s.last s.carry (s.suppliers ++ (new_supplier number location kind upper response ∷ [])) s.customers
after m r s (enrol_customer number) = resting s s.last s.carry s.suppliers (s.customers ++ (new_customer number ∷ []))
after m r s (open_hour hour) = in_hour s opened hour 0 (pos 0) s.suppliers
after m r s (clear shadow targets curves rows) =
    in_hour s cleared s.hour 0
    (s.cost +ℤ cost m shadow (places s.suppliers) (schedules rows) *ℤ pos hour_seconds)
    (each (post_clearing m shadow) s.suppliers (schedules rows))
after m r s (interval seconds shadow targets curves rows) =
    in_hour s cleared s.hour (s.seconds + seconds)
    (s.cost +ℤ cost_over_lem m shadow (places s.suppliers) (schedules rows) (aheads s.suppliers) *ℤ pos seconds)
    (each (post_interval m shadow seconds) s.suppliers (schedules rows))
after m r s (close rows) =
    resting s (Some s.hour)
    (new_carry (grains_due s) (charges r s rows))
    (map settle s.suppliers)
    (each charge s.customers (charges r s rows))
after m r s void = resting s s.last s.carry (map forget s.suppliers) s.customers
