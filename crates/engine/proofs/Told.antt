-- What is told of an accepted record.
use Rattle.std.proofs.Common.{◌≡◌, ℕ, List, Some, Option, ℤ, sym, ap, ◌∙◌}
use Rattle.faults.specs.declared.fault.Fault.{Fault}
use Rattle.sums.specs.Verdict.{Verdict, accept}
use Rattle.maps.specs.Market.{Market}
use Rattle.curves.specs.declared.step.Step.{Step as CurveStep}
use Rattle.sharing.specs.Rule.{Rule}
use Rattle.law.specs.Ledger.{State}
use Rattle.law.specs.Run.{Step}
use Rattle.settlement.specs.declared.course.Ledger.{Ledger}
use Rattle.settlement.specs.declared.course.Ledger.TheVariants.{Rest, Opened, Cleared}
use Rattle.settlement.specs.declared.house.House.{House}
use Rattle.settlement.specs.Course.{state_of, carry_of_lem}
use Rattle.books.specs.Books.{suppliers, customers}
use Rattle.feed.specs.Entries.{Entry}
use Rattle.lines.specs.Texts.{texts}
use Rattle.lines.specs.Closings.{closing_lines}
use Rattle.engine.specs.declared.noting.Noted.{Noted}
use Rattle.engine.specs.Asking.{asks}
use Rattle.engine.specs.Telling.{Settles, Foretold, answer_at, noted_lines}

-- an accepted record, by what was noted before it
pub accepted : (m : Market) (r : Rule) (curves : List (List CurveStep)) (offset : ℕ) (s s' : State) (e : Entry) (v : Verdict Fault) (noted : Option Noted) (bytes : List ℕ)
    → v ≡ accept → Step m r s (asks curves e) v s' → Foretold s (asks curves e) noted → bytes ≡ texts (noted_lines noted s')
    → Settles m r curves offset s e accept s' bytes
accepted m r curves offset s s' e v noted bytes ok step foretold told = record {
  answer = ap (answer_at offset) (sym ok ∙ step.answer);
  left = step.left;
  lines = told ∙ ap texts (foretold m r s' (sym step.answer ∙ ok));
}

-- the lines of a closing, by what the ledger and the house show after it
pub shown : {M : Type 0} (n : Noted) (l : Ledger) (h : House M) (carry : ℤ) → carry ≡ carry_of_lem l
    → texts (closing_lines n.hour n.paid.now (suppliers h.suppliers) n.charged.now (customers h.customers) carry) ≡ texts (noted_lines (Some n) (state_of l h))
shown n (Rest l) h carry e = ap (λ k. texts (closing_lines n.hour n.paid.now (suppliers h.suppliers) n.charged.now (customers h.customers) k)) e
shown n (Opened l) h carry e = ap (λ k. texts (closing_lines n.hour n.paid.now (suppliers h.suppliers) n.charged.now (customers h.customers) k)) e
shown n (Cleared l) h carry e = ap (λ k. texts (closing_lines n.hour n.paid.now (suppliers h.suppliers) n.charged.now (customers h.customers) k)) e
