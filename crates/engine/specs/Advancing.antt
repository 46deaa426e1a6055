-- What is done with the bytes of a feed from an offset on.
use Rattle.std.specs.Prelude.{◌≡◌, ℕ, List, [], ◌∷◌, drop, Err}
use Rattle.faults.specs.declared.fault.Fault.{Fault}
use Rattle.faults.specs.declared.fault.Fault.TheVariants.{UnknownKind, SizeNotAllowed}
use Rattle.faults.specs.Told.{told_of}
use Rattle.maps.specs.Market.{Market}
use Rattle.curves.specs.declared.step.Step.{Step as CurveStep}
use Rattle.sharing.specs.Rule.{Rule}
use Rattle.law.specs.Ledger.{State}
use Rattle.law.specs.Run.{Fed, Run}
use Rattle.law.specs.Law.{Kept}
use Rattle.law.specs.Verdicts.{verdict}
use Rattle.feed.specs.Entries.{Entry}
use Rattle.feed.specs.Front.{Front, ended, truncated, unknown_kind, size_not_allowed, whole}
use Rattle.lines.specs.declared.line.Line.{Line}
use Rattle.lines.specs.declared.line.Line.TheVariants.{Refused}
use Rattle.lines.specs.Texts.{texts}
use Rattle.settlement.specs.Course.{fed}
use Rattle.engine.specs.declared.outcome.Outcome.{Outcome}
use Rattle.engine.specs.declared.outcome.Progress.{Progress}
use Rattle.engine.specs.declared.outcome.Progress.TheVariants.{Waiting, Settled, Stopped}
use Rattle.engine.specs.Asking.{asks}
use Rattle.engine.specs.Telling.{Settles}

-- nothing is done before there are more bytes
pub record Waits (s : State) (p : Progress) (s' : State) : Type 0 where
  pub waiting : p ≡ Waiting
  pub left : s' ≡ s

-- the feed is refused by f, and a line tells so
pub record Stops (offset : ℕ) (f : Fault) (s : State) (p : Progress) (s' : State) (out : List ℕ) : Type 0 where
  pub outcome : Outcome
  pub stopped : p ≡ Stopped outcome
  pub answer : outcome.answer ≡ Err f
  pub left : s' ≡ s
  pub lines : drop outcome.lines out ≡ texts (Refused (told_of f).number offset ∷ [])

-- a record that says e is settled; its lines end the buffer `out`
pub record GoesOn (m : Market) (r : Rule) (curves : List (List CurveStep)) (offset : ℕ) (s : State) (e : Entry) (p : Progress) (s' : State) (out : List ℕ) : Type 0 where
  pub outcome : Outcome
  pub settled : p ≡ Settled outcome
  pub step : Settles m r curves offset s e outcome.answer s' (drop outcome.lines out)

-- by what stands at the front of the bytes
abbrev pub Advances : Market → Rule → List (List CurveStep) → (offset : ℕ) → Front → State → Progress → State → (out : List ℕ) → Type 0
Advances m r curves offset ended s p s' out = Waits s p s'
Advances m r curves offset truncated s p s' out = Waits s p s'
Advances m r curves offset unknown_kind s p s' out = Stops offset (UnknownKind offset) s p s' out
Advances m r curves offset size_not_allowed s p s' out = Stops offset (SizeNotAllowed offset) s p s' out
Advances m r curves offset (whole e n) s p s' out = GoesOn m r curves offset s e p s' out

-- the steps so far, the latest first, with the one that the front of the bytes asks for
abbrev pub log_with : Market → Rule → List (List CurveStep) → Front → State → List Fed → List Fed
log_with m r curves ended s log = log
log_with m r curves truncated s log = log
log_with m r curves unknown_kind s log = log
log_with m r curves size_not_allowed s log = log
log_with m r curves (whole e n) s log = fed (asks curves e) (verdict m r s (asks curves e)) ∷ log

-- the steps so far led from a new ledger to s, and the law of all runs holds
pub record LawfulRun (m : Market) (r : Rule) (log : List Fed) (s : State) : Type 0 where
  pub run : Run m r log s
  pub kept : Kept m r log s

-- the line of what stands at the end of a feed and is no whole record
abbrev pub end_lines : (offset : ℕ) → Front → List Line
end_lines offset ended = []
end_lines offset truncated = Refused 1 offset ∷ []
end_lines offset unknown_kind = Refused 2 offset ∷ []
end_lines offset size_not_allowed = Refused 3 offset ∷ []
end_lines offset (whole e n) = []
