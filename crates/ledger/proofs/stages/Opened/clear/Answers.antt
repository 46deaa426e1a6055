use Rattle.std.proofs.Common.{pos, ◌∙◌, w64, SFits, rules}
use Rattle.std.proofs.lemmas.Int.{to_z-of_z}
use Rattle.books.specs.Books.{suppliers, room}
use Rattle.curves.specs.Book.{curves_of}
use Rattle.law.proofs.Steps.{clear_refused, clear_taken}
use Rattle.ledger.proofs.Writing.{cleared_each, from_none}
use Rattle.ledger.proofs.stages.Opened.clear.Goals as goal

pub returns-in-Err : goal.returns-in-Err
returns-in-Err g c rule ys q =
    clear_refused (g.M.LocationMap.market c.args.map.now) rule c.args.self.closed.last c.args.self.hour c.args.self.closed.carry 0 (pos 0) (suppliers c.args.suppliers.now) ys (room c.args.suppliers.now) q
    c.args.sheet.shadow_prices.now c.args.sheet.targets.now (curves_of c.args.curves.now) c.args.sheet.rows.now c.in-Err.fault c.in-Err.ensures.reply

pub returns-in-Ok : goal.returns-in-Ok
returns-in-Ok g c rule ys q =
    let fc : SFits w64 c.args.self.closed.carry = search rules in
    let fy : SFits w64 c.in-Ok.plan.cost = search rules in
    let v = c.in-Ok.ensures.reply in
    let n = c.in-Ok.ensures.holds in
    simp to_z-of_z (clear_taken (g.M.LocationMap.market c.args.map.now) rule c.args.self.closed.last c.args.self.hour c.args.self.closed.carry 0 (pos 0) (suppliers c.args.suppliers.now) ys (room c.args.suppliers.now) q
    c.args.sheet.shadow_prices.now c.args.sheet.targets.now (curves_of c.args.curves.now) c.args.sheet.rows.now _ _ _ v
    (n.cost ∙ from_none _)
    (c.post.ensures.after ∙ cleared_each (g.M.LocationMap.market c.args.map.now) (suppliers c.args.suppliers.now) c.args.sheet.shadow_prices.now c.args.sheet.targets.now (curves_of c.args.curves.now) c.args.sheet.rows.now c.in-Ok.plan.terms n.posts v)
    c.post.ensures.room)
