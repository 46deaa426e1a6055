use Rattle.std.proofs.Common.{arith}
use Rattle.std.proofs.lemmas.Bool.Decides.{nat_tests}
use Rattle.maps.proofs.Slots.{one_more}
use Rattle.maps.proofs.loaded_map.slots.count_wanted.Goals as goal

pub loop-product-preserved : goal.loop-product-preserved
loop-product-preserved c =
    let m = one_more c.args.places.now c.loop-place.place-index c.loop-product.product c.loop-product-test.true in
    grind (arith, nat_tests)
