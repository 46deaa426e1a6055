use Rattle.std.proofs.Common.{◌≤◌, length, ap, ◌∙◌, arith, w64, SFits, rules}
use Rattle.std.proofs.lemmas.Result.{err_from_is_err_and}
use Rattle.std.proofs.lemmas.Int.{to_z-of_z}
use Rattle.curves.specs.Book.{curves_of}
use Rattle.planning.proofs.Planning.{planned_told, planned_small, plan_holds}
use Rattle.planning.proofs.plan.plan_for.Goals as goal

pub returns-in_err-check_post-clause-reply : goal.returns-in_err-check_post-clause-reply
returns-in_err-check_post-clause-reply g c =
    let p = err_from_is_err_and c.from_residual-in_err-check_post.result c.from_residual-in_err-check_post.ensures.1 in
    rw (p.1, p.2) (planned_told (g.M.LocationMap.market c.args.map.now) c.accounts-accounts.result.now c.args.sheet.shadow_prices.now c.args.sheet.targets.now (curves_of c.args.curves.now) c.args.sheet.rows.now _ c.accounts-accounts.ensures.all c.clearing_prices.result c.clearing_prices.ensures.value c.in_ok-scheduled.ensures.reply c.args.settled c.args.seconds c.args.timing c.requires.hour _ c.in_ok-check_seconds.ensures c.in_err-check_post.ensures)

pub cost_over-cost-requires : goal.cost_over-cost-requires
cost_over-cost-requires g c =
    let all = ap length c.accounts-accounts.ensures.all in
    let few : length c.accounts-accounts.result.now ≤ 128 = omega (arith, c.accounts-accounts.ensures.few) in
    let small = planned_small (g.M.LocationMap.market c.args.map.now) c.accounts-accounts.result.now c.args.sheet.shadow_prices.now c.args.sheet.targets.now (curves_of c.args.curves.now) c.args.sheet.rows.now _ c.accounts-accounts.ensures.all c.clearing_prices.result c.clearing_prices.ensures.value c.in_ok-scheduled.ensures.reply c.args.settled c.args.seconds c.args.timing c.requires.hour c.in_ok-scheduled.scheduled c.in_ok-scheduled.ensures.holds c.cost_of-real.result c.cost_of-real.ensures c.paid_in_second-paid.result c.paid_in_second-paid.ensures (g.met.M.LocationMap.lawful c.args.map.now) few c.in_ok-check_seconds.ensures c.in_ok-check_post.ensures in
    record { real = small.0; paid = small.1; time = search rules }

pub returns : goal.returns
returns g c =
    let m = g.M.LocationMap.market c.args.map.now in
    let f : SFits w64 c.cost_over-cost.result = search rules in
    record {
      reply = planned_told m c.accounts-accounts.result.now c.args.sheet.shadow_prices.now c.args.sheet.targets.now (curves_of c.args.curves.now) c.args.sheet.rows.now _ c.accounts-accounts.ensures.all c.clearing_prices.result c.clearing_prices.ensures.value c.in_ok-scheduled.ensures.reply c.args.settled c.args.seconds c.args.timing c.requires.hour _ c.in_ok-check_seconds.ensures c.in_ok-check_post.ensures;
      holds = plan_holds m c.accounts-accounts.result.now c.args.sheet.shadow_prices.now c.args.sheet.targets.now (curves_of c.args.curves.now) c.args.sheet.rows.now _ c.accounts-accounts.ensures.all c.clearing_prices.result c.clearing_prices.ensures.value c.in_ok-scheduled.ensures.reply c.args.settled c.args.seconds c.args.timing c.requires.hour c.in_ok-scheduled.scheduled c.in_ok-scheduled.ensures.holds c.cost_of-real.result c.cost_of-real.ensures c.paid_in_second-paid.result c.paid_in_second-paid.ensures _ (to_z-of_z w64 c.cost_over-cost.result f ∙ c.cost_over-cost.ensures.value) (simp to_z-of_z c.cost_over-cost.ensures.bound);
    }
