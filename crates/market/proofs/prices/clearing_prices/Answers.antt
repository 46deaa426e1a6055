use Rattle.std.proofs.Common.{◌≡◌, ℕ, get_or, ap, ◌∙◌, inl, inr, arith}
use Rattle.std.proofs.lemmas.Bool.{cases_lt}
use Rattle.market.specs.Products.{ProductPrices}
use Rattle.market.specs.Tables.{no_prices, prices_at_lem}
use Rattle.market.proofs.Beyond.{prices_beyond}
use Rattle.market.proofs.Better.{better_never_cheaper}
use Rattle.market.proofs.prices.clearing_prices.Goals as goal

pub returns : goal.returns
returns g c =
    let m = g.M.LocationMap.market c.args.map.now in
    let law = g.met.M.LocationMap.lawful c.args.map.now in
    let better = better_never_cheaper m law in
    let value : (l : ℕ) → get_or c.loop-l.table l no_prices ≡ prices_at_lem m c.args.shadow_prices.now l = λ l. elim (cases_lt l c.loop-l.l) [
      | inl h ↦ c.loop-l.invariant.1 l h
      | inr h ↦ c.loop-l.invariant.2 l h ∙ prices_beyond m law c.args.shadow_prices.now l (omega arith)
    ] in
    record {
      value = value;
      law = λ l. (omega (arith, ap (λ (x : ProductPrices). x.thirty) (value l), ap (λ (x : ProductPrices). x.ten) (value l), better.ten_thirty c.args.shadow_prices.now l), omega (arith, ap (λ (x : ProductPrices). x.spinning) (value l), ap (λ (x : ProductPrices). x.ten) (value l), better.spinning_ten c.args.shadow_prices.now l));
    }
