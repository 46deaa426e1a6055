use Rattle.std.proofs.Common.{arith}
use Rattle.maps.proofs.Same.{tree_replies_as_fixed_lem}
use Rattle.maps.proofs.loaded_map.LoadedMap.fixed_tree.Goals as goal

pub returns : goal.returns
returns c =
    rw (
      c.first_of.ensures.all (omega arith),
      c.asking_for_all-west.ensures,
      c.asking_for_all-east.ensures,
      c.asking_for_all-southeast.ensures,
      c.asking_for_all-new_york_city.ensures,
      c.asking_for_all-long_island.ensures,
    ) tree_replies_as_fixed_lem
