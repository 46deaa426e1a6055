use Rattle.maps.proofs.Same.{tree_replies_as_fixed_lem}
use Rattle.maps.proofs.tree_replies_as_fixed.Goals as goal

pub returns : goal.returns
returns c = tree_replies_as_fixed_lem
