use mathlib.Core.Path.{refl}
use Rattle.figures.proofs.figures_hold.Goals as goal

pub returns : goal.returns
returns c = record {
  first_step = refl;
  second_step = refl;
  over_target = refl;
  no_target = refl;
  eastern_spinning = refl;
  western_spinning = refl;
  eastern_thirty = refl;
}
