-- Whole feeds: the records that stand at the front of any bytes, settled one after another from a new ledger.
use Rattle.std.specs.Prelude.{ℕ, List, [], ◌∷◌}
use Rattle.maps.specs.Market.{Market}
use Rattle.curves.specs.declared.step.Step.{Step as CurveStep}
use Rattle.sharing.specs.Rule.{Rule}
use Rattle.law.specs.Ledger.{State, new}
use Rattle.law.specs.Run.{Fed, leaves}
use Rattle.law.specs.Verdicts.{verdict}
use Rattle.feed.specs.Entries.{Entry}
use Rattle.feed.specs.Runs.{Reads}
use Rattle.settlement.specs.Course.{fed}
use Rattle.engine.specs.Asking.{asks}
use Rattle.engine.specs.Advancing.{LawfulRun}

-- where the records lead from s; each is settled as `Settles` says, and a refused one leads nowhere
abbrev pub led_to : Market → Rule → List (List CurveStep) → State → List Entry → State
led_to m r curves s [] = s
led_to m r curves s (e ∷ es) = led_to m r curves (leaves m r s (asks curves e) (verdict m r s (asks curves e))) es

-- the steps that they are, after those of a log; the latest stands first
abbrev pub logged : Market → Rule → List (List CurveStep) → State → List Fed → List Entry → List Fed
logged m r curves s log [] = log
logged m r curves s log (e ∷ es) =
    logged m r curves (leaves m r s (asks curves e) (verdict m r s (asks curves e))) (fed (asks curves e) (verdict m r s (asks curves e)) ∷ log) es

-- whatever bytes a feed has, the law of all runs holds wherever the records read off its front have led a new ledger
abbrev pub FeedsKeep : Market → Rule → Type 0
FeedsKeep m r = (curves : List (List CurveStep)) (supplier_room customer_room : ℕ) (bytes : List ℕ) (es : List Entry) (left : List ℕ) → Reads bytes es left
    → LawfulRun m r (logged m r curves (new supplier_room customer_room) [] es) (led_to m r curves (new supplier_room customer_room) es)
