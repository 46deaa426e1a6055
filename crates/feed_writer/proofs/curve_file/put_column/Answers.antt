use Rattle.std.proofs.Common.{ℕ, ◌+◌, ◌*◌, List, map, length, take, sym, ap, ◌∙◌, mul-add, mul-zero, mul-le-mul_left, arith}
use Rattle.std.specs.List.{flat_map}
use Rattle.curves.specs.declared.step.Step.{Step}
use Rattle.curves.specs.Book.{steps_of}
use Rattle.feed_writer.specs.Bytes.{written}
use Rattle.feed_writer.specs.CurveBytes.{all_steps}
use Rattle.feed_writer.proofs.Buffers.{written_none, follows, length_joined}
use Rattle.feed_writer.proofs.Steps.{joined_append, curve_more, curve_counted, curve_within, all_taken}
use Rattle.feed_writer.proofs.curve_file.put_column.Goals as goal

pub loop-curve-init : goal.loop-curve-init
loop-curve-init g c = (omega (arith, mul-zero g.C.Part.SIZE), sym (written_none c.args.at c.args.out.now))

pub put_each-next-requires : goal.put_each-next-requires
put_each-next-requires g c =
    let k : ℕ = g.C.Part.SIZE in
    let before : ℕ = length (all_steps (take c.loop-curve.curve-index (map steps_of c.args.curves.now))) in
    let more : ℕ = length c.steps.result.now in
    let w = curve_within c.args.curves.now c.loop-curve.curve-index c.curve-item.result c.steps.result.now c.loop-curve-test.true c.curve-item.is c.steps.ensures.value in
    omega (arith, mul-le-mul_left {m = before + more} {n = length (all_steps (map steps_of c.args.curves.now))} k w, mul-add k before more)

pub loop-curve-preserved : goal.loop-curve-preserved
loop-curve-preserved g c =
    let f = g.C.Part.bytes in
    let k : ℕ = g.C.Part.SIZE in
    let ss : List Step = c.steps.result.now in
    let before : List Step = all_steps (take c.loop-curve.curve-index (map steps_of c.args.curves.now)) in
    let w = curve_within c.args.curves.now c.loop-curve.curve-index c.curve-item.result ss c.loop-curve-test.true c.curve-item.is c.steps.ensures.value in
    let n = curve_counted c.args.curves.now c.loop-curve.curve-index c.curve-item.result ss c.loop-curve-test.true c.curve-item.is c.steps.ensures.value in
    let m = curve_more c.args.curves.now c.loop-curve.curve-index c.curve-item.result ss c.loop-curve-test.true c.curve-item.is c.steps.ensures.value in
    let a = length_joined f k g.met.C.Part.sized before in
    let b = length_joined f k g.met.C.Part.sized ss in
    let room = mul-le-mul_left {m = length before + length ss} {n = length (all_steps (map steps_of c.args.curves.now))} k w in
    let sum = mul-add k (length before) (length ss) in (
      c.put_each-next.ensures.end ∙ ap (λ (p : ℕ). p + k * length ss) c.loop-curve.invariant.0 ∙ omega (arith, sum, ap (λ (p : ℕ). k * p) n),
      follows c.args.at c.loop-curve.next (flat_map f before) (flat_map f ss) c.args.out.now c.loop-curve.out _
          c.loop-curve.invariant.1 c.put_each-next.ensures.holds (omega arith) (omega arith)
          ∙ ap (λ (bs : List ℕ). written c.args.at bs c.args.out.now) (sym (joined_append f before ss) ∙ ap (flat_map f) (sym m)),
    )

pub returns : goal.returns
returns g c = record {
  holds =
      c.loop-curve.invariant.1
      ∙ ap (λ (cs : List (List Step)). written c.args.at (flat_map g.C.Part.bytes (all_steps cs)) c.args.out.now)
      (all_taken c.args.curves.now c.loop-curve.curve-index c.loop-curve-test.false);
  end =
      c.loop-curve.invariant.0
      ∙ ap (λ (cs : List (List Step)). c.args.at + g.C.Part.SIZE * length (all_steps cs))
      (all_taken c.args.curves.now c.loop-curve.curve-index c.loop-curve-test.false);
}
