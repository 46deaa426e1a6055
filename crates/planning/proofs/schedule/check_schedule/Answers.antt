use Rattle.std.proofs.Common.{◌≡◌, length, rules}
use Rattle.std.proofs.lemmas.Result.{err_from_is_err_and}
use Rattle.curves.specs.Book.{curves_of}
use Rattle.planning.proofs.Planning.{scheduled, counted}
use Rattle.planning.proofs.schedule.check_schedule.Goals as goal

pub returns-in_err-check_prices : goal.returns-in_err-check_prices
returns-in_err-check_prices g c =
    let p = err_from_is_err_and c.from_residual-in_err-check_prices.result c.from_residual-in_err-check_prices.ensures.1 in
    rw (p.1, p.2) (record { reply = scheduled (g.M.LocationMap.market c.args.map.now) c.args.accounts.now c.args.sheet.shadow_prices.now c.args.sheet.targets.now (curves_of c.args.curves.now) c.args.sheet.rows.now c.quantities-scheduled.result c.quantities-scheduled.ensures.value _ c.in_ok-check_sheet.ensures c.in_ok-check_capability.ensures c.in_err-check_prices.ensures.reply; holds = tt })

pub returns : goal.returns
returns g c =
    let m = g.M.LocationMap.market c.args.map.now in
    let v = c.in_ok-check_prices.ensures.reply in
    let long : length c.quantities-scheduled.result ≡ 32 = search rules in
    record {
      reply = scheduled m c.args.accounts.now c.args.sheet.shadow_prices.now c.args.sheet.targets.now (curves_of c.args.curves.now) c.args.sheet.rows.now c.quantities-scheduled.result c.quantities-scheduled.ensures.value _ c.in_ok-check_sheet.ensures c.in_ok-check_capability.ensures v;
      holds = record {
        priced = counted m c.args.accounts.now c.args.sheet.shadow_prices.now c.args.sheet.targets.now (curves_of c.args.curves.now) c.args.sheet.rows.now _ v;
        long = long;
        value = c.quantities-scheduled.ensures.value;
        low = c.quantities-scheduled.ensures.bound;
      };
    }
