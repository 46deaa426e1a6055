-- When a new account is refused, and what the book has then.
use Rattle.std.specs.Prelude.{ℕ, min, Bool, not, List, [], ◌∷◌, ◌++◌, length, Ok, Err, ◌==◌, nat_lt}
use Rattle.faults.specs.declared.fault.Fault.{Fault}
use Rattle.faults.specs.declared.fault.Fault.TheVariants.{NumberTaken, BookFull}
use Rattle.sums.specs.Verdict.{Verdict, want, ◌then◌, scan_one}
use Rattle.accounts.specs.declared.supplier.Supplier.{Supplier}
use Rattle.accounts.specs.declared.customer.Customer.{Customer}
use Rattle.accounts.specs.declared.enrolment.NewSupplier.{NewSupplier}
use Rattle.accounts.specs.Enrolment.{fields_verdict, new_supplier}
use Rattle.accounts.specs.Limits.{most_suppliers, most_customers}

-- no account has the number; else the place of the first that has it is told
abbrev pub unlike : {A : Type 0} → (A → ℕ) → ℕ → A → Bool
unlike numbered number a = not (numbered a == number)

abbrev pub place_verdict : {A : Type 0} → (A → ℕ) → ℕ → List A → Verdict Fault
place_verdict numbered number xs = scan_one (unlike numbered number) NumberTaken 0 xs

-- one more account is within the kind's most and the room of the table
abbrev pub room_verdict : ℕ → ℕ → ℕ → Verdict Fault
room_verdict most room count = want (nat_lt count (min most room)) (BookFull count)

abbrev pub new_verdict : {A : Type 0} → (A → ℕ) → ℕ → ℕ → ℕ → List A → Verdict Fault
new_verdict numbered most room number xs = place_verdict numbered number xs then room_verdict most room (length xs)

abbrev pub supplier_verdict : ℕ → ℕ → NewSupplier → List Supplier → Verdict Fault
supplier_verdict locations room new xs =
    new_verdict (λ a. a.number) most_suppliers room new.number xs
    then fields_verdict locations new.location new.kind new.upper new.response

abbrev pub customer_verdict : ℕ → ℕ → List Customer → Verdict Fault
customer_verdict room number xs = new_verdict (λ a. a.number) most_customers room number xs

abbrev pub account_of : NewSupplier → Supplier
account_of new = new_supplier new.number new.location new.kind new.upper new.response

-- the accounts once the answer is given
abbrev pub enrolled : {A : Type 0} → Verdict Fault → List A → A → List A
enrolled (Ok u) xs a = xs ++ (a ∷ [])
enrolled (Err f) xs a = xs
