use Rattle.std.proofs.Common.{length, mul-add, mul-zero, arith, rules}
use Rattle.feed_writer.proofs.Buffers.{turn_fits, rows_none, rows_more, rows_all, each_more, each_all}
use Rattle.feed_writer.proofs.put.put_each.Goals as goal

pub loop-item-init : goal.loop-item-init
loop-item-init g c = (
  omega (arith, mul-zero g.P.Part.SIZE),
  rows_none g.P.Part.bytes g.P.Part.SIZE g.met.P.Part.sized c.args.at c.args.items.now c.args.out.now,
  tt,
)

pub put-requires : goal.put-requires
put-requires g c = omega (arith, turn_fits g.P.Part.SIZE c.loop-item.item-index (length c.args.items.now) c.loop-item-test.true)

pub overflow_add-next : goal.overflow_add-next
overflow_add-next g c =
    let f = turn_fits g.P.Part.SIZE c.loop-item.item-index (length c.args.items.now) c.loop-item-test.true in
    search rules

pub loop-item-preserved : goal.loop-item-preserved
loop-item-preserved g c = (
  omega (arith, mul-add g.P.Part.SIZE c.loop-item.item-index 1),
  rows_more g.P.Part.bytes g.P.Part.SIZE g.met.P.Part.sized c.args.at c.args.items.now c.args.out.now _ c.loop-item.item-index c.item-item.result c.loop-item.out _
      c.loop-item-test.true c.item-item.is (omega arith) (omega arith) c.loop-item.invariant.1 c.put.ensures.holds,
  each_more g.P.Part.fitting c.args.items.now c.loop-item.item-index c.item-item.result c.loop-item-test.true c.item-item.is c.loop-item.invariant.2 c.put.ensures.fits,
)

pub returns : goal.returns
returns g c = record {
  holds = rows_all g.P.Part.bytes g.P.Part.SIZE g.met.P.Part.sized c.args.at c.args.items.now c.args.out.now c.loop-item.item-index c.loop-item.out c.loop-item-test.false c.loop-item.invariant.1;
  fits = each_all g.P.Part.fitting c.args.items.now c.loop-item.item-index c.loop-item-test.false c.loop-item.invariant.2;
  end = search rules;
}
