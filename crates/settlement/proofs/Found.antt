-- A step of a ledger, or of a call, that a match has found to be of one case.
use Rattle.std.proofs.Common.{◌≡◌, refl, sym, subst, List, ◌∷◌, ℕ, Bool, true, false, Err}
use Rattle.faults.specs.declared.fault.Fault.{Fault}
use Rattle.faults.specs.declared.fault.Fault.TheVariants.{WrongStage}
use Rattle.sums.specs.Verdict.{Verdict}
use Rattle.maps.specs.Market.{Market, MapLaw}
use Rattle.curves.specs.Book.{curves_of}
use Rattle.sharing.specs.Rule.{Rule, Fair}
use Rattle.accounts.specs.declared.supplier.Supplier.{Supplier}
use Rattle.accounts.specs.declared.customer.Customer.{Customer}
use Rattle.law.specs.Ledger.{State, void}
use Rattle.law.specs.Run.{Fed, Run, Step}
use Rattle.law.specs.Law.{Kept}
use Rattle.law.proofs.Steps.{kept_after}
use Rattle.law.specs.Verdicts.{verdict}
use Rattle.settlement.specs.declared.course.Ledger.{Ledger}
use Rattle.settlement.specs.declared.course.Ledger.TheVariants.{Rest, Opened, Cleared}
use Rattle.settlement.specs.declared.call.Call.{Call}
use Rattle.settlement.specs.declared.call.Call.TheVariants.{EnrolSupplier, EnrolCustomer, Open, Clear, Interval, Close, Void}
use Rattle.settlement.specs.declared.house.House.{House}
use Rattle.settlement.specs.Course.{state, state_of, SameRules, fed}
use Rattle.settlement.specs.Calls.{asked}

pub found : {M : Type 0} (m : Market) (r : Rule) (h : House M) {l k : Ledger} → k ≡ l → {b c : Call} → c ≡ b → {v : Verdict Fault} {s' : State}
    → Step m r (state_of l h) (asked (curves_of h.curves.now) b) v s' → Step m r (state_of k h) (asked (curves_of h.curves.now) c) v s'
found m r h {l} {k} e {b} {c} f {v} {s'} step =
    subst (λ (j : Ledger). Step m r (state_of j h) (asked (curves_of h.curves.now) c) v s') (sym e)
    (subst (λ (a : Call). Step m r (state_of l h) (asked (curves_of h.curves.now) a) v s') (sym f) step)

-- what `step` promises where stage and call are known and it is a step of the model
pub taken : {M : Type 0} (m : Market) → MapLaw m → (r : Rule) → Fair r → (h : House M) {h' : House M} → SameRules h h'
    → {l k : Ledger} → k ≡ l → {b c : Call} → c ≡ b → {v : Verdict Fault} {s' : State}
    → Step m r (state_of l h) (asked (curves_of h.curves.now) b) v s'
    → record {
      step : Step m r (state_of k h) (asked (curves_of h.curves.now) c) v s';
      law : (log : List Fed) → Run m r log (state_of k h) → Kept m r (fed (asked (curves_of h.curves.now) c) v ∷ log) s';
      rules : SameRules h h';
    }
taken m lawful r fair h rules e f step =
    let one = found m r h e f step in
    record { step = one; law = kept_after m lawful r fair _ _ _ _ one; rules = rules }

pub voided : (m : Market) (r : Rule) (l k : Ledger) → k ≡ l → (xs : List Supplier) (ys : List Customer) (p q : ℕ) (s' : State)
    → Step m r (state l xs ys p q) void (verdict m r (state l xs ys p q) void) s'
    → Step m r (state k xs ys p q) void (verdict m r (state k xs ys p q) void) s'
voided m r l k e xs ys p q s' step = subst (λ (j : Ledger). Step m r (state j xs ys p q) void (verdict m r (state j xs ys p q) void) s') (sym e) step

-- whether a stage has the call
abbrev pub has : Ledger → Call → Bool
has (Rest _) (EnrolSupplier _) = true
has (Rest _) (EnrolCustomer _) = true
has (Rest _) (Open _) = true
has (Opened _) (Clear _) = true
has (Opened _) Void = true
has (Cleared _) (Interval _ _) = true
has (Cleared _) (Close _) = true
has (Cleared _) Void = true
has _ _ = false

pub at_wrong_stage : {M : Type 0} (m : Market) (r : Rule) (h : House M) (l : Ledger) (c : Call) → has l c ≡ false
    → Step m r (state_of l h) (asked (curves_of h.curves.now) c) (Err (WrongStage 0)) (state_of l h)
at_wrong_stage m r h (Rest _) (Clear _) e = record { answer = refl; left = refl }
at_wrong_stage m r h (Rest _) (Interval _ _) e = record { answer = refl; left = refl }
at_wrong_stage m r h (Rest _) (Close _) e = record { answer = refl; left = refl }
at_wrong_stage m r h (Rest _) Void e = record { answer = refl; left = refl }
at_wrong_stage m r h (Opened _) (EnrolSupplier _) e = record { answer = refl; left = refl }
at_wrong_stage m r h (Opened _) (EnrolCustomer _) e = record { answer = refl; left = refl }
at_wrong_stage m r h (Opened _) (Open _) e = record { answer = refl; left = refl }
at_wrong_stage m r h (Opened _) (Interval _ _) e = record { answer = refl; left = refl }
at_wrong_stage m r h (Opened _) (Close _) e = record { answer = refl; left = refl }
at_wrong_stage m r h (Cleared _) (EnrolSupplier _) e = record { answer = refl; left = refl }
at_wrong_stage m r h (Cleared _) (EnrolCustomer _) e = record { answer = refl; left = refl }
at_wrong_stage m r h (Cleared _) (Open _) e = record { answer = refl; left = refl }
at_wrong_stage m r h (Cleared _) (Clear _) e = record { answer = refl; left = refl }
at_wrong_stage m r h _ _ e = cc
