use Rattle.std.proofs.Common.{◌<◌, get_or, arith, get_or-take, length-take}
use Rattle.sums.proofs.SumLaws.{upto_more}
use Rattle.market.specs.Totals.{no_totals, counted}
use Rattle.market.proofs.quantity.quantity_toward.Goals as goal

pub loop-location-preserved : goal.loop-location-preserved
loop-location-preserved g c =
    let ts = c.args.totals.now in
    let l = c.loop-location.location in
    let low = c.requires.low l in
    let lt : l < c.locations.result = omega (arith, length-take c.locations.result ts) in
    let here = get_or-take c.locations.result ts l no_totals lt in
    let more = upto_more (λ j. counted (g.M.LocationMap.market c.args.map.now) c.args.requirement j (get_or ts j no_totals)) l in
    grind arith
