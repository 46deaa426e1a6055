use Rattle.std.proofs.Common.{◌≡◌, true, ◌&&◌, leb, map, length, refl, ap, ◌∙◌, arith, length-set, rules}
use Rattle.std.specs.List.{range_with_len}
use Rattle.std.proofs.lemmas.Bool.Decides.{nat_tests}
use Rattle.std.proofs.lemmas.Result.{err_from_is_err_and}
use Rattle.sums.specs.Verdict.{accept}
use Rattle.curves.specs.Steps.{most_curves}
use Rattle.feed.specs.CurveFile.{file_count, curve_steps}
use Rattle.feed.proofs.Counts.{first_step_next, steps_within, steps_are}
use Rattle.feed.proofs.Chain.{chain_bad, chain_good, chain_end, curve_written, curves_written}
use Rattle.feed.proofs.curve_file.CurveFile.load_into.Goals as goal

pub curve-requires : goal.curve-requires
curve-requires c =
    let h = steps_within c.args.self.now.bytes.now c.loop-k.k c.args.self.now.curves (omega arith) in
    search rules

pub overflow_add-first : goal.overflow_add-first
overflow_add-first c =
    let h = steps_within c.args.self.now.bytes.now c.loop-k.k c.args.self.now.curves (omega arith) in
    search rules

pub returns-in_err-place : goal.returns-in_err-place
returns-in_err-place c =
    let p = err_from_is_err_and c.from_residual.result c.from_residual.ensures.1 in
    let s = steps_are c.args.self.now.bytes.now c.loop-k.k _ _ c.loop-k.invariant.0 c.step_count-count.ensures.value in
    rw (p.1, p.2) (record {
      reply =
          chain_bad (curve_steps c.args.self.now.bytes.now) c.loop-k.k (file_count c.args.self.now.bytes.now) _ _ (omega arith) s c.loop-k.invariant.3 _
          c.in_err-place.ensures.reply;
      holds = refl;
    })

pub loop-k-preserved : goal.loop-k-preserved
loop-k-preserved c =
    let s = steps_are c.args.self.now.bytes.now c.loop-k.k _ _ c.loop-k.invariant.0 c.step_count-count.ensures.value in (
      omega (arith, first_step_next c.args.self.now.bytes.now c.loop-k.k),
      simp length-set c.loop-k.invariant.1,
      curve_written (curve_steps c.args.self.now.bytes.now) c.loop-k.curves c.loop-k.k _ _ (omega arith) s c.in_ok-place.ensures.holds c.loop-k.invariant.2,
      chain_good (curve_steps c.args.self.now.bytes.now) c.loop-k.k (file_count c.args.self.now.bytes.now) _ _ (omega arith) s c.loop-k.invariant.3
          c.in_ok-place.ensures.reply,
    )

pub returns : goal.returns
returns c =
    let n : length c.loop-k.curves ≡ c.args.self.now.curves = c.loop-k.invariant.1 in
    let some = c.args.self.now.some in
    let few = c.args.self.now.few in
    let fits : (leb 1 (length c.loop-k.curves) && leb (length c.loop-k.curves) most_curves) ≡ true = grind (arith, nat_tests) in
    let loaded : c.load.result ≡ accept = c.load.ensures.reply ∙ (rw fits) in
    let all =
    curves_written (curve_steps c.args.self.now.bytes.now) c.args.self.now.curves c.loop-k.k c.loop-k.curves n (omega arith) c.loop-k.invariant.2
    ∙ ap (λ m. map (curve_steps c.args.self.now.bytes.now) (range_with_len 0 m)) c.args.self.now.count in
    record {
      reply = loaded ∙ chain_end (curve_steps c.args.self.now.bytes.now) c.loop-k.k (file_count c.args.self.now.bytes.now) _ (omega arith) c.loop-k.invariant.3;
      holds = rw loaded ((rw loaded at c.load.ensures.holds) ∙ all);
    }
