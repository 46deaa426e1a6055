-- The worked hour, by computation.
use Rattle.std.proofs.Common.{List, [], ◌∷◌, refl}
use Rattle.sums.specs.Verdict.{accepts}
use Rattle.maps.specs.Market.{Market}
use Rattle.maps.specs.Fixed.{fixed_market}
use Rattle.sharing.specs.Rule.{Rule, running}
use Rattle.law.specs.Ledger.{State, Args, new}
use Rattle.law.specs.Verdicts.{verdict}
use Rattle.law.specs.Run.{leaves, Step, Fed, Run, fresh, more}
use Rattle.law.specs.Case.{ends, logged, calls, WorkedCase}

-- any calls make a run
pub runs_on : (m : Market) (r : Rule) (calls : List Args) (log : List Fed) (s : State) → Run m r log s → Run m r (logged m r s calls log) (ends m r s calls)
runs_on m r [] log s run = run
runs_on m r (a ∷ calls) log s run =
    let step : Step m r s a (verdict m r s a) (leaves m r s a (verdict m r s a)) = record { answer = refl; left = refl } in
    runs_on m r calls (record { args = a; accepted = accepts (verdict m r s a) } ∷ log) (leaves m r s a (verdict m r s a)) (more run step)

pub worked_case : WorkedCase
worked_case = record {
  is_run = runs_on fixed_market running calls [] (new 1 1) fresh;
  taken = refl;
  net = refl;
  paid = refl;
  held = refl;
  charged = refl;
  carried = refl;
}
