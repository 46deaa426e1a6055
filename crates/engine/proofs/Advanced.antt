-- What a reader answers decides what is done; and the law after it.
use Rattle.std.proofs.Common.{◌≡◌, ℕ, Bool, true, false, List, [], ◌∷◌, drop, Some, None, Ok, Err, Option, sym, refl, ap, ◌∙◌, subst, append-nil, arith}
use Rattle.faults.specs.declared.fault.Fault.{Fault}
use Rattle.faults.specs.declared.fault.Fault.TheVariants.{Truncated, UnknownKind, SizeNotAllowed}
use Rattle.faults.specs.Told.{told_of}
use Rattle.sums.specs.Verdict.{Verdict}
use Rattle.maps.specs.Market.{Market, MapLaw}
use Rattle.curves.specs.declared.step.Step.{Step as CurveStep}
use Rattle.sharing.specs.Rule.{Rule, Fair}
use Rattle.law.specs.Ledger.{State, Args}
use Rattle.law.specs.Run.{Fed, Run, more, Step}
use Rattle.law.specs.Verdicts.{verdict}
use Rattle.law.proofs.Kept.{runs_keep}
use Rattle.feed.specs.Entries.{Entry}
use Rattle.feed.specs.Front.{Front, ended, truncated, unknown_kind, size_not_allowed, whole}
use Rattle.feed.specs.declared.record.Record.{Record}
use Rattle.feed.specs.Reading.{answer, answered, says}
use Rattle.lines.specs.declared.line.Line.TheVariants.{Refused}
use Rattle.lines.specs.Texts.{text, texts}
use Rattle.settlement.specs.Course.{fed}
use Rattle.engine.specs.declared.outcome.Outcome.{Outcome}
use Rattle.engine.specs.declared.outcome.Progress.{Progress}
use Rattle.engine.specs.declared.outcome.Progress.TheVariants.{Waiting, Settled, Stopped}
use Rattle.engine.specs.Asking.{asks}
use Rattle.engine.specs.Telling.{fault_at, Settles}
use Rattle.engine.specs.Advancing.{Stops, Advances, log_with, LawfulRun, end_lines}

-- the refusal of a feed that ends inside a record
abbrev pub is_truncated : Fault → Bool
is_truncated (Truncated _) = true
is_truncated f = false

module _ (m : Market) (r : Rule) (curves : List (List CurveStep)) (offset : ℕ) (s : State) (out : List ℕ) where
  pub waits_at_end : (f : Front) → Ok None ≡ answer offset f → Advances m r curves offset f s Waiting s out
  waits_at_end ended e = record { waiting = refl; left = refl }
  waits_at_end truncated e = record { waiting = refl; left = refl }
  waits_at_end unknown_kind e = let z : ◌≡◌ {A = ℕ} 0 1 = cc in absurd (omega arith)
  waits_at_end size_not_allowed e = let z : ◌≡◌ {A = ℕ} 0 1 = cc in absurd (omega arith)
  waits_at_end (whole x n) e = let z : ◌≡◌ {A = ℕ} 0 1 = cc in absurd (omega arith)

  pub waits_inside : (f : Front) (at : ℕ) → Err (Truncated at) ≡ answer offset f → Advances m r curves offset f s Waiting s out
  waits_inside ended at e = record { waiting = refl; left = refl }
  waits_inside truncated at e = record { waiting = refl; left = refl }
  waits_inside unknown_kind at e = let z : ◌≡◌ {A = ℕ} 0 1 = cc in absurd (omega arith)
  waits_inside size_not_allowed at e = let z : ◌≡◌ {A = ℕ} 0 1 = cc in absurd (omega arith)
  waits_inside (whole x n) at e = let z : ◌≡◌ {A = ℕ} 0 1 = cc in absurd (omega arith)

  pub goes_on : (f : Front) (x : Entry) (outcome : Outcome) (s' : State) → Ok (Some x) ≡ answer offset f
      → Settles m r curves offset s x outcome.answer s' (drop outcome.lines out) → Advances m r curves offset f s (Settled outcome) s' out
  goes_on ended x outcome s' e step = let z : ◌≡◌ {A = ℕ} 0 1 = cc in absurd (omega arith)
  goes_on truncated x outcome s' e step = let z : ◌≡◌ {A = ℕ} 0 1 = cc in absurd (omega arith)
  goes_on unknown_kind x outcome s' e step = let z : ◌≡◌ {A = ℕ} 0 1 = cc in absurd (omega arith)
  goes_on size_not_allowed x outcome s' e step = let z : ◌≡◌ {A = ℕ} 0 1 = cc in absurd (omega arith)
  goes_on (whole y n) x outcome s' e step =
      let same : x ≡ y = cc in
      record { outcome = outcome; settled = refl; step = subst (λ z. Settles m r curves offset s z outcome.answer s' (drop outcome.lines out)) same step }

  stops_by : (fault f : Fault) (outcome : Outcome) → fault ≡ f → fault_at offset f ≡ f → outcome.answer ≡ Err (fault_at offset fault)
      → drop outcome.lines out ≡ text (Refused (told_of (fault_at offset fault)).number offset)
      → Stops offset f s (Stopped outcome) s out
  stops_by fault f outcome e own told line =
      let same : fault_at offset fault ≡ f = ap (fault_at offset) e ∙ own in
      record {
        outcome = outcome;
        stopped = refl;
        answer = told ∙ ap (λ x. Err x) same;
        left = refl;
        lines = line ∙ ap (λ x. text (Refused (told_of x).number offset)) same ∙ sym (append-nil (text (Refused (told_of f).number offset)));
      }

  pub stops : (f : Front) (fault : Fault) (outcome : Outcome) → Err fault ≡ answer offset f → is_truncated fault ≡ false
      → outcome.answer ≡ Err (fault_at offset fault)
      → drop outcome.lines out ≡ text (Refused (told_of (fault_at offset fault)).number offset)
      → Advances m r curves offset f s (Stopped outcome) s out
  stops ended fault outcome e other told line = let z : ◌≡◌ {A = ℕ} 0 1 = cc in absurd (omega arith)
  stops truncated fault outcome e other told line = let z : ◌≡◌ {A = ℕ} 0 1 = cc in absurd (omega arith)
  stops unknown_kind fault outcome e other told line = let same : fault ≡ UnknownKind offset = cc in stops_by fault (UnknownKind offset) outcome same refl told line
  stops size_not_allowed fault outcome e other told line = let same : fault ≡ SizeNotAllowed offset = cc in stops_by fault (SizeNotAllowed offset) outcome same refl told line
  stops (whole x n) fault outcome e other told line = let z : ◌≡◌ {A = ℕ} 0 1 = cc in absurd (omega arith)

  -- the same, of an offset that was asked for before
  pub settled_at : (f : Front) (x : Entry) (outcome : Outcome) (s' : State) (at : ℕ) → at ≡ offset → Ok (Some x) ≡ answer offset f
      → Settles m r curves at s x outcome.answer s' (drop outcome.lines out) → Advances m r curves offset f s (Settled outcome) s' out
  settled_at f x outcome s' at same e step =
      goes_on f x outcome s' e (subst (λ o. Settles m r curves o s x outcome.answer s' (drop outcome.lines out)) same step)

  pub stopped_at : (f : Front) (fault : Fault) (outcome : Outcome) (at : ℕ) → at ≡ offset → Err fault ≡ answer offset f → is_truncated fault ≡ false
      → outcome.answer ≡ Err (fault_at at fault)
      → drop outcome.lines out ≡ text (Refused (told_of (fault_at at fault)).number at)
      → Advances m r curves offset f s (Stopped outcome) s out
  stopped_at f fault outcome at same e other told line =
      stops f fault outcome e other
      (told ∙ ap (λ o. Err (fault_at o fault)) same)
      (line ∙ ap (λ o. text (Refused (told_of (fault_at o fault)).number o)) same)

-- ---- the law
module _ (m : Market) (lawful : MapLaw m) (r : Rule) (fair : Fair r) (curves : List (List CurveStep)) (offset : ℕ) (s s' : State) (p : Progress) (out : List ℕ) (log : List Fed) (run : Run m r log s) where
  unmoved : s' ≡ s → LawfulRun m r log s'
  unmoved e = subst (LawfulRun m r log) (sym e) (record { run = run; kept = runs_keep m lawful r fair log s run })

  pub lasting : (f : Front) → Advances m r curves offset f s p s' out → LawfulRun m r (log_with m r curves f s log) s'
  lasting ended a = unmoved a.left
  lasting truncated a = unmoved a.left
  lasting unknown_kind a = unmoved a.left
  lasting size_not_allowed a = unmoved a.left
  lasting (whole e n) a =
      let step : Step m r s (asks curves e) (verdict m r s (asks curves e)) s' = record { answer = refl; left = a.step.left } in
      let on = more run step in
      record { run = on; kept = runs_keep m lawful r fair _ s' on }

-- one more step of a run
pub one_more : (m : Market) → MapLaw m → (r : Rule) → Fair r → (s : State) (a : Args) (v : Verdict Fault) (s' : State) → Step m r s a v s'
    → (log : List Fed) → Run m r log s → LawfulRun m r (fed a v ∷ log) s'
one_more m lawful r fair s a v s' step log run = record { run = more run step; kept = runs_keep m lawful r fair (fed a v ∷ log) s' (more run step) }

-- ---- the end of a feed
pub ends_with : (offset : ℕ) (f : Front) (fault : Fault) (bytes : List ℕ) (at : ℕ) → at ≡ offset → Err fault ≡ answer offset f
    → bytes ≡ text (Refused (told_of (fault_at at fault)).number at) → bytes ≡ texts (end_lines offset f)
ends_with offset f fault bytes at same e line = by_front f e
  where
    at_offset : bytes ≡ text (Refused (told_of (fault_at offset fault)).number offset)
    at_offset = line ∙ ap (λ o. text (Refused (told_of (fault_at o fault)).number o)) same

    by : (g : Fault) (n : ℕ) → fault ≡ g → (told_of (fault_at offset g)).number ≡ n → bytes ≡ texts (Refused n offset ∷ [])
    by g n own number = at_offset ∙ ap (λ x. text (Refused (told_of (fault_at offset x)).number offset)) own ∙ ap (λ k. text (Refused k offset)) number ∙ sym (append-nil (text (Refused n offset)))

    by_front : (g : Front) → Err fault ≡ answer offset g → bytes ≡ texts (end_lines offset g)
    by_front ended e = let z : ◌≡◌ {A = ℕ} 0 1 = cc in absurd (omega arith)
    by_front truncated e = let own : fault ≡ Truncated offset = cc in by (Truncated offset) 1 own refl
    by_front unknown_kind e = let own : fault ≡ UnknownKind offset = cc in by (UnknownKind offset) 2 own refl
    by_front size_not_allowed e = let own : fault ≡ SizeNotAllowed offset = cc in by (SizeNotAllowed offset) 3 own refl
    by_front (whole x n) e = let z : ◌≡◌ {A = ℕ} 0 1 = cc in absurd (omega arith)

-- where the reader refuses nothing there is no line
ends_quietly : (offset : ℕ) (f : Front) (o : Option Entry) → Ok o ≡ answer offset f → [] ≡ texts (end_lines offset f)
ends_quietly offset ended o e = refl
ends_quietly offset truncated o e = let z : ◌≡◌ {A = ℕ} 0 1 = cc in absurd (omega arith)
ends_quietly offset unknown_kind o e = let z : ◌≡◌ {A = ℕ} 0 1 = cc in absurd (omega arith)
ends_quietly offset size_not_allowed o e = let z : ◌≡◌ {A = ℕ} 0 1 = cc in absurd (omega arith)
ends_quietly offset (whole x n) o e = refl

pub ends_read : (offset : ℕ) (f : Front) (found : Option Record) → answered (Ok found) ≡ answer offset f → [] ≡ texts (end_lines offset f)
ends_read offset f None e = ends_quietly offset f None e
ends_read offset f (Some x) e = ends_quietly offset f (Some (says x)) e
