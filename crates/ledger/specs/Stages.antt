-- The model's state, from a ledger at each stage and the accounts and rooms of its books.
use Rattle.std.specs.Prelude.{ℕ, List, pos}
use Rattle.accounts.specs.declared.supplier.Supplier.{Supplier}
use Rattle.accounts.specs.declared.customer.Customer.{Customer}
use Rattle.law.specs.Ledger.{State, at_rest, opened, cleared}
use Rattle.ledger.specs.declared.stages.Rest.{Rest}
use Rattle.ledger.specs.declared.stages.Opened.{Opened}
use Rattle.ledger.specs.declared.stages.Cleared.{Cleared}

abbrev pub rest_state : Rest → List Supplier → List Customer → (supplier_room customer_room : ℕ) → State
rest_state l xs ys p q = record {
  stage = at_rest;
  last = l.closed.last;
  hour = 0;
  carry = l.closed.carry;
  seconds = 0;
  cost = pos 0;
  suppliers = xs;
  customers = ys;
  supplier_room = p;
  customer_room = q;
}

abbrev pub opened_state : Opened → List Supplier → List Customer → (supplier_room customer_room : ℕ) → State
opened_state l xs ys p q = record {
  stage = opened;
  last = l.closed.last;
  hour = l.hour;
  carry = l.closed.carry;
  seconds = 0;
  cost = pos 0;
  suppliers = xs;
  customers = ys;
  supplier_room = p;
  customer_room = q;
}

abbrev pub cleared_state : Cleared → List Supplier → List Customer → (supplier_room customer_room : ℕ) → State
cleared_state l xs ys p q = record {
  stage = cleared;
  last = l.closed.last;
  hour = l.hour;
  carry = l.closed.carry;
  seconds = l.seconds;
  cost = l.cost;
  suppliers = xs;
  customers = ys;
  supplier_room = p;
  customer_room = q;
}
