use Rattle.std.proofs.Common.{◌≡◌, length, get_or, refl}
use Rattle.curves.specs.Book.{curves_of}
use Rattle.market.specs.Claims.{price_verdict}
use Rattle.market.proofs.Within.{chained, made_within}
use Rattle.market.proofs.claims.check_prices.Goals as goal

pub returns : goal.returns
returns g c =
    let m = g.M.LocationMap.market c.args.map.now in
    let sp = c.args.shadow_prices.now in
    let ts = c.args.targets.now in
    let cs = curves_of c.args.curves.now in
    let e : c.check_curves.result ≡ price_verdict m sp ts cs (λ k. get_or c.args.quantities.now k 0) =
    chained m sp ts cs (λ k. get_or c.args.quantities.now k 0) c.requirements-requirements.result (length cs) c.check_curves.result c.requirements-requirements.ensures refl c.in_ok-check_counts.ensures c.in_ok-check_ranges.ensures c.check_curves.ensures in
    record { reply = e; law = made_within m sp ts cs (λ k. get_or c.args.quantities.now k 0) c.check_curves.result e }
