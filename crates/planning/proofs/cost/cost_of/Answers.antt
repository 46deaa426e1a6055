use Rattle.std.proofs.Common.{rules, ℕ, ◌*◌, ◌∙◌, arith}
use borrow.Author.Tests.{tests}
use Rattle.std.proofs.lemmas.Iterator.{YieldsList-from_slice, YieldsList-from_zip, YieldsList-from_map}
use Rattle.std.proofs.lemmas.Iterator.Consumers.{YieldsList-at, sum_by_from_yields_List, fits_by_from_yields_list}
use Rattle.std.proofs.lemmas.Iterator.Adapters.{serves_from_places}
use Rattle.std.specs.List.{zip}
use Rattle.planning.proofs.Priced.{by_pair, pair_fits, all_fit}
use Rattle.planning.proofs.cost.cost_of.Goals as goal

pub sum-requires-clause-can : goal.sum-requires-clause-can
sum-requires-clause-can c = ((tt, tt), serves_from_places (YieldsList-from_zip (YieldsList-from_slice c.args.shadow_prices.now cc) (YieldsList-from_slice c.args.quantities.now cc)) (λ x q k. search (rules, tests)) (λ x k h e. λ κs p a b t f g. (let b = pair_fits c.args.shadow_prices.now c.args.quantities.now c.requires.low k (x.0.now, x.1.now) h e f in omega arith)))

pub sum-requires-clause-fits : goal.sum-requires-clause-fits
sum-requires-clause-fits c = fits_by_from_yields_list (λ (p : ℕ × ℕ). p.0 * p.1) (zip c.args.shadow_prices.now c.args.quantities.now) c.map.result _ (YieldsList-from_map _ (λ (p : ℕ × ℕ). p.0 * p.1) (YieldsList-at c.map.ensures.source (YieldsList-from_zip (YieldsList-from_slice c.args.shadow_prices.now cc) (YieldsList-from_slice c.args.quantities.now cc))) c.map.ensures.closure (λ x r q k. search (rules, tests))) (all_fit c.args.shadow_prices.now c.args.quantities.now c.requires.low c.requires.few (omega (arith, c.requires.few, c.requires.long)) c.type_inv.shadow_prices)

pub returns : goal.returns
returns c = let e = sum_by_from_yields_List (λ (p : ℕ × ℕ). p.0 * p.1) (zip c.args.shadow_prices.now c.args.quantities.now) c.map.result c.sum.result c.sum.ensures.ran (YieldsList-from_map _ (λ (p : ℕ × ℕ). p.0 * p.1) (YieldsList-at c.map.ensures.source (YieldsList-from_zip (YieldsList-from_slice c.args.shadow_prices.now cc) (YieldsList-from_slice c.args.quantities.now cc))) c.map.ensures.closure (λ x r q k. search (rules, tests))) in e ∙ by_pair c.args.shadow_prices.now c.args.quantities.now (omega (arith, c.requires.few, c.requires.long))
