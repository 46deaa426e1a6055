-- The model's state of a ledger at any stage, and a step as the law's log has it.
use Rattle.std.specs.Prelude.{◌≡◌, List, [], ℕ, ℤ, Option, Some, None}
use Rattle.faults.specs.declared.fault.Fault.{Fault}
use Rattle.sums.specs.Verdict.{Verdict, accepts}
use Rattle.accounts.specs.declared.supplier.Supplier.{Supplier}
use Rattle.accounts.specs.declared.customer.Customer.{Customer}
use Rattle.books.specs.Books.{suppliers, customers, room}
use Rattle.law.specs.Ledger.{State, Args, at_rest, opened, cleared}
use Rattle.law.specs.Run.{Fed}
use Rattle.ledger.specs.Stages.{rest_state, opened_state, cleared_state}
use Rattle.settlement.specs.declared.course.Ledger.{Ledger}
use Rattle.settlement.specs.declared.course.Ledger.TheVariants.{Rest, Opened, Cleared}
use Rattle.settlement.specs.declared.house.House.{House}

abbrev pub state : Ledger → List Supplier → List Customer → (supplier_room customer_room : ℕ) → State
state (Rest l) xs ys p q = rest_state l xs ys p q
state (Opened l) xs ys p q = opened_state l xs ys p q
state (Cleared l) xs ys p q = cleared_state l xs ys p q

module _ {M : Type 0} where
  -- of a ledger of a house
  abbrev pub state_of : Ledger → House M → State
  state_of l h = state l (suppliers h.suppliers) (customers h.customers) (room h.suppliers) (room h.customers)

  -- a house goes by the map and the curves that it went by
  pub record SameRules (before after : House M) : Type 0 where
    pub map : after.map ≡ before.map
    pub curves : after.curves ≡ before.curves

-- what is told of a step that was answered so
abbrev pub fed : Args → Verdict Fault → Fed
fed a v = record { args = a; accepted = accepts v }

-- what a ledger shows whatever its books hold
abbrev pub carry_of_lem : Ledger → ℤ
carry_of_lem l = (state l [] [] 0 0).carry

-- the hour in hand, of which there is none at rest
abbrev pub hour_in_hand : State → Option ℕ
hour_in_hand s = elim s.stage [ at_rest ↦ None | opened ↦ Some s.hour | cleared ↦ Some s.hour ]

abbrev pub hour_of : Ledger → Option ℕ
hour_of l = hour_in_hand (state l [] [] 0 0)
