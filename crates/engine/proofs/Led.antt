-- Every record of a feed is one more step of a run.
use Rattle.std.proofs.Common.{List, [], ◌∷◌, refl}
use Rattle.maps.specs.Market.{Market, MapLaw}
use Rattle.curves.specs.declared.step.Step.{Step as CurveStep}
use Rattle.sharing.specs.Rule.{Rule, Fair}
use Rattle.law.specs.Ledger.{State}
use Rattle.law.specs.Run.{Fed, Run, fresh, more, leaves, Step}
use Rattle.law.specs.Verdicts.{verdict}
use Rattle.law.proofs.Kept.{runs_keep}
use Rattle.feed.specs.Entries.{Entry}
use Rattle.engine.specs.Asking.{asks}
use Rattle.engine.specs.Advancing.{LawfulRun}
use Rattle.engine.specs.Courses.{led_to, logged, FeedsKeep}

module _ (m : Market) (lawful : MapLaw m) (r : Rule) (fair : Fair r) (curves : List (List CurveStep)) where
  led : (es : List Entry) (s : State) (log : List Fed) → Run m r log s → LawfulRun m r (logged m r curves s log es) (led_to m r curves s es)
  led [] s log run = record { run = run; kept = runs_keep m lawful r fair log s run }
  led (e ∷ es) s log run =
      let step : Step m r s (asks curves e) (verdict m r s (asks curves e)) (leaves m r s (asks curves e) (verdict m r s (asks curves e))) = record { answer = refl; left = refl } in
      led es _ _ (more run step)

pub feeds_keep : (m : Market) → MapLaw m → (r : Rule) → Fair r → FeedsKeep m r
feeds_keep m lawful r fair curves p q bytes es left reads = led m lawful r fair curves es _ [] fresh
