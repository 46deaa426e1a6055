use Rattle.std.proofs.Common.{rules}
use Rattle.maps.proofs.Loading.{three_bits}
use Rattle.maps.proofs.loaded_map.loading.check_arrays.Goals as goal

pub some_asked-requires : goal.some_asked-requires
some_asked-requires c = three_bits c.args.parents.now c.args.masks.now c.in_ok-check_places.ensures (search rules)
