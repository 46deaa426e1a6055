use Rattle.std.proofs.Common.{◌+◌, ◌*◌, ◌≤◌, ℤ, ◌+ℤ◌, nat_abs, refl, ap, ◌∙◌, w64, SFits, rules}
use Rattle.std.proofs.lemmas.Result.{err_from_is_err_and}
use Rattle.std.proofs.lemmas.Int.{to_z-of_z}
use Rattle.books.specs.Books.{suppliers, room}
use Rattle.curves.specs.Book.{curves_of}
use Rattle.law.specs.Ledger.{hour_seconds}
use Rattle.law.proofs.Steps.{interval_refused, interval_taken}
use Rattle.planning.specs.Plans.{most_cost}
use Rattle.ledger.proofs.Writing.{settled_each, time_left, cost_fits, cost_bounded}
use Rattle.ledger.proofs.stages.Cleared.interval.Goals as goal

pub returns-in_err-plan : goal.returns-in_err-plan
returns-in_err-plan g c rule ys q =
    let p = err_from_is_err_and c.from_residual.result c.from_residual.ensures.1 in
    rw (p.1, p.2) (interval_refused (g.M.LocationMap.market c.args.map.now) rule c.args.self.now.closed.last c.args.self.now.hour c.args.self.now.closed.carry c.args.self.now.seconds c.args.self.now.cost (suppliers c.args.suppliers.now) ys (room c.args.suppliers.now) q
    c.args.sheet.shadow_prices.now c.args.sheet.targets.now (curves_of c.args.curves.now) c.args.sheet.rows.now c.args.seconds c.in_err-plan.field-0.0 c.in_err-plan.ensures.reply)

pub overflow_add-self-2 : goal.overflow_add-self-2
overflow_add-self-2 g c =
    let b = c.in_ok-plan.ensures.holds.bound in
    let k : nat_abs c.args.self.now.cost ≤ most_cost * (hour_seconds + c.args.self.now.seconds) = c.args.self.now.bounded in
    let s = time_left (g.M.LocationMap.market c.args.map.now) (suppliers c.args.suppliers.now) c.args.sheet.shadow_prices.now c.args.sheet.targets.now (curves_of c.args.curves.now) c.args.sheet.rows.now c.in_ok-plan.plan.terms c.args.self.now.seconds c.args.seconds c.in_ok-plan.ensures.reply in
    let fx : SFits w64 c.args.self.now.cost = search rules in
    let fy : SFits w64 c.in_ok-plan.plan.cost = search rules in
    let fxy = cost_fits c.args.self.now.cost c.in_ok-plan.plan.cost c.args.self.now.seconds c.args.seconds k b s in
    simp to_z-of_z fxy

pub invariant_of-self : goal.invariant_of-self
invariant_of-self g c =
    let b = c.in_ok-plan.ensures.holds.bound in
    let k : nat_abs c.args.self.now.cost ≤ most_cost * (hour_seconds + c.args.self.now.seconds) = c.args.self.now.bounded in
    let s = time_left (g.M.LocationMap.market c.args.map.now) (suppliers c.args.suppliers.now) c.args.sheet.shadow_prices.now c.args.sheet.targets.now (curves_of c.args.curves.now) c.args.sheet.rows.now c.in_ok-plan.plan.terms c.args.self.now.seconds c.args.seconds c.in_ok-plan.ensures.reply in
    let fx : SFits w64 c.args.self.now.cost = search rules in
    let fy : SFits w64 c.in_ok-plan.plan.cost = search rules in
    let fxy = cost_fits c.args.self.now.cost c.in_ok-plan.plan.cost c.args.self.now.seconds c.args.seconds k b s in
    record { timed = s; bounded = simp to_z-of_z (cost_bounded c.args.self.now.cost c.in_ok-plan.plan.cost c.args.self.now.seconds c.args.seconds k b) }

pub returns : goal.returns
returns g c rule ys q =
    let v = c.in_ok-plan.ensures.reply in
    let n = c.in_ok-plan.ensures.holds in
    let k : nat_abs c.args.self.now.cost ≤ most_cost * (hour_seconds + c.args.self.now.seconds) = c.args.self.now.bounded in
    let s = time_left (g.M.LocationMap.market c.args.map.now) (suppliers c.args.suppliers.now) c.args.sheet.shadow_prices.now c.args.sheet.targets.now (curves_of c.args.curves.now) c.args.sheet.rows.now c.in_ok-plan.plan.terms c.args.self.now.seconds c.args.seconds v in
    let fx : SFits w64 c.args.self.now.cost = search rules in
    let fy : SFits w64 c.in_ok-plan.plan.cost = search rules in
    let fxy = cost_fits c.args.self.now.cost c.in_ok-plan.plan.cost c.args.self.now.seconds c.args.seconds k n.bound s in
    simp to_z-of_z (interval_taken (g.M.LocationMap.market c.args.map.now) rule c.args.self.now.closed.last c.args.self.now.hour c.args.self.now.closed.carry c.args.self.now.seconds c.args.self.now.cost (suppliers c.args.suppliers.now) ys (room c.args.suppliers.now) q
    c.args.sheet.shadow_prices.now c.args.sheet.targets.now (curves_of c.args.curves.now) c.args.sheet.rows.now c.args.seconds (c.args.self.now.seconds + c.args.seconds) (c.args.self.now.cost +ℤ c.in_ok-plan.plan.cost) _ _ v refl
    (ap (λ (z : ℤ). c.args.self.now.cost +ℤ z) n.cost)
    (c.post.ensures.after ∙ settled_each (g.M.LocationMap.market c.args.map.now) (suppliers c.args.suppliers.now) c.args.sheet.shadow_prices.now c.args.sheet.targets.now (curves_of c.args.curves.now) c.args.sheet.rows.now c.in_ok-plan.plan.terms c.args.self.now.seconds c.args.seconds n.posts v)
    c.post.ensures.room)
