use Rattle.std.proofs.Common.{◌<◌, get_or, arith, get_or-take, length-take}
use Rattle.sums.specs.Sums.{when}
use Rattle.sums.proofs.SumLaws.{upto_more}
use Rattle.market.proofs.Beyond.{price_of_first}
use Rattle.market.proofs.prices.clearing_price.Goals as goal

pub loop-requirement-preserved : goal.loop-requirement-preserved
loop-requirement-preserved g c =
    let sp = c.args.shadow_prices.now in
    let k = c.loop-requirement.requirement in
    let lt : k < c.min-count.result = omega (arith, length-take c.min-count.result sp) in
    let here = get_or-take c.min-count.result sp k 0 lt in
    let more = upto_more (λ j. when ((g.M.LocationMap.market c.args.map.now).counts j c.args.product c.args.location) (get_or sp j 0)) k in
    grind arith

pub overflow_add-sum : goal.overflow_add-sum
overflow_add-sum g c = let few = (g.met.M.LocationMap.lawful c.args.map.now).few_requirements in grind (arith, length-take)

pub returns : goal.returns
returns g c =
    let few = (g.met.M.LocationMap.lawful c.args.map.now).few_requirements in
    let all = price_of_first (g.M.LocationMap.market c.args.map.now) c.args.shadow_prices.now c.args.product c.args.location in
    record { value = grind (arith, length-take, all); bound = grind (arith, length-take) }
