use Rattle.std.proofs.Common.{refl, ap, sym, ◌∙◌, arith, rules}
use Rattle.std.proofs.lemmas.List.{length-take}
use Rattle.std.proofs.lemmas.Option.{same_Some}
use Rattle.feed.proofs.Fills.{counted_at, written, filled}
use Rattle.feed.proofs.parts.Rows.fill.Goals as goal

pub loop-i-preserved : goal.loop-i-preserved
loop-i-preserved g c =
    let row = g.R.Row.row_at c.args.self.now.numbers.now c.args.self.now.rest.now in
    let read =
    c.at.ensures
    ∙ sym (counted_at row _ c.loop-i.i (row c.loop-i.i) (omega (arith, length-take c.min-count.result c.args.out.now)) refl) in
    written row c.loop-i.places 0 c.loop-i.i c.unwrap.result (omega arith)
    (same_Some _ _ (sym c.unwrap.ensures ∙ read) ∙ ap row (omega arith)) c.loop-i.invariant

pub returns : goal.returns
returns g c =
    filled (g.R.Row.row_at c.args.self.now.numbers.now c.args.self.now.rest.now) _ c.min-count.result c.loop-i.i c.args.out.now c.loop-i.places
    (search rules) (omega (arith, length-take c.min-count.result c.args.out.now)) (omega (arith, length-take c.min-count.result c.args.out.now)) c.loop-i.invariant
