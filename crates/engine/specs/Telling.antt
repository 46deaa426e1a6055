-- What is told of a record that a feed has at an offset: the answer, and the lines of the statement.
use Rattle.std.specs.Prelude.{◌≡◌, ℕ, cond, List, [], ◌∷◌, map, ℤ, Ok, Err, ◌==◌, Option, Some, None}
use Rattle.faults.specs.declared.fault.Fault.{Fault}
use Rattle.faults.specs.declared.fault.Fault.TheVariants.{WrongStage}
use Rattle.faults.specs.Told.{told_of}
use Rattle.sums.specs.Verdict.{Verdict, accept}
use Rattle.maps.specs.Market.{Market}
use Rattle.curves.specs.declared.step.Step.{Step as CurveStep}
use Rattle.sharing.specs.Rule.{Rule}
use Rattle.accounts.specs.declared.supplier.Supplier.{Supplier}
use Rattle.accounts.specs.declared.customer.Customer.{Customer}
use Rattle.law.specs.Ledger.{State, Args}
use Rattle.law.specs.Law.{is_close}
use Rattle.law.specs.Run.{leaves}
use Rattle.law.specs.Verdicts.{verdict}
use Rattle.feed.specs.Entries.{Entry}
use Rattle.lines.specs.declared.line.Line.{Line}
use Rattle.lines.specs.declared.line.Line.TheVariants.{Refused}
use Rattle.lines.specs.Texts.{texts}
use Rattle.lines.specs.Closings.{closing_lines}
use Rattle.engine.specs.declared.noting.Noted.{Noted}
use Rattle.engine.specs.Asking.{asks}

-- a ledger knows no feed: the refusal of a record at the wrong stage [4] gets the record's offset here
abbrev pub fault_at : ℕ → Fault → Fault
fault_at offset f = cond ((told_of f).number == 4) (WrongStage offset) f

abbrev pub answer_at : ℕ → Verdict Fault → Verdict Fault
answer_at offset (Ok u) = Ok u
answer_at offset (Err f) = Err (fault_at offset f)

-- the cents of each account
abbrev pub supplier_cents : List Supplier → List ℤ
supplier_cents xs = map (λ a. a.cents) xs

abbrev pub customer_cents : List Customer → List ℤ
customer_cents xs = map (λ a. a.cents) xs

-- the lines of a call that found the ledger and its books as s and left them as s': of a refusal its number and the
-- record's offset; of an accepted closing what each account got in that hour, and the carry; else none
abbrev pub lines_of : (offset : ℕ) → State → Args → Verdict Fault → State → List Line
lines_of offset s a (Err f) s' = Refused (told_of f).number offset ∷ []
lines_of offset s a (Ok u) s' =
    cond (is_close a)
    (closing_lines s.hour (supplier_cents s.suppliers) s'.suppliers (customer_cents s.customers) s'.customers s'.carry)
    []

-- the lines of an accepted call that left s', by what was noted before it
abbrev pub noted_lines : Option Noted → State → List Line
noted_lines None s' = []
noted_lines (Some n) s' = closing_lines n.hour n.paid.now s'.suppliers n.charged.now s'.customers s'.carry

-- if a call that finds the state s is accepted, what was noted before it gives its lines
abbrev pub Foretold : State → Args → Option Noted → Type 0
Foretold s a noted = (m : Market) (r : Rule) (s' : State) → verdict m r s a ≡ accept → noted_lines noted s' ≡ lines_of 0 s a accept s'

-- a record at an offset that says e was settled, with the answer v and the bytes of its lines
pub record Settles (m : Market) (r : Rule) (curves : List (List CurveStep)) (offset : ℕ) (s : State) (e : Entry) (v : Verdict Fault) (s' : State) (bytes : List ℕ) : Type 0 where
  pub answer : v ≡ answer_at offset (verdict m r s (asks curves e))
  pub left : s' ≡ leaves m r s (asks curves e) (verdict m r s (asks curves e))
  pub lines : bytes ≡ texts (lines_of offset s (asks curves e) v s')
