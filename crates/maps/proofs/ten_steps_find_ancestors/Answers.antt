use Rattle.maps.proofs.Ancestors.{ten_steps_find_ancestors_lem}
use Rattle.maps.proofs.ten_steps_find_ancestors.Goals as goal

pub returns : goal.returns
returns c = ten_steps_find_ancestors_lem
