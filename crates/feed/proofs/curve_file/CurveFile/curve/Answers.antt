use Rattle.std.proofs.Common.{min, length-set, ◌∙◌, arith}
use Rattle.std.proofs.lemmas.Result.{err_from_is_err_and}
use Rattle.feed.specs.CurveFile.{step_in}
use Rattle.feed.proofs.Fills.{written, all_written}
use Rattle.feed.proofs.Seen.{seen_verdict, seen_all}
use Rattle.feed.proofs.curve_file.CurveFile.curve.Goals as goal

pub loop-i-preserved : goal.loop-i-preserved
loop-i-preserved c = (
  written (step_in c.args.self.now.bytes.now) c.loop-i.steps c.args.first c.loop-i.i _ (omega arith) c.step.ensures c.loop-i.invariant.0,
  simp length-set c.loop-i.invariant.1,
)

pub returns-in_err-load : goal.returns-in_err-load
returns-in_err-load c =
    let p = err_from_is_err_and c.from_residual.result c.from_residual.ensures.1 in
    let made = all_written (step_in c.args.self.now.bytes.now) c.args.first (min c.args.count 9) c.loop-i.i c.loop-i.steps c.loop-i.invariant.1 (omega arith) c.loop-i.invariant.0 in
    rw (p.1, p.2) (record {
      reply =
          c.in_err-load.ensures.reply
          ∙ seen_verdict (step_in c.args.self.now.bytes.now) c.args.first c.args.count (min c.args.count 9) c.loop-i.steps (omega arith) made c.args.k;
      holds = tt;
    })

pub returns : goal.returns
returns c =
    let made = all_written (step_in c.args.self.now.bytes.now) c.args.first (min c.args.count 9) c.loop-i.i c.loop-i.steps c.loop-i.invariant.1 (omega arith) c.loop-i.invariant.0 in
    record {
      reply =
          c.in_ok-load.ensures.reply
          ∙ seen_verdict (step_in c.args.self.now.bytes.now) c.args.first c.args.count (min c.args.count 9) c.loop-i.steps (omega arith) made c.args.k;
      holds =
          c.in_ok-load.ensures.holds
          ∙ seen_all (step_in c.args.self.now.bytes.now) c.args.first c.args.count (min c.args.count 9) c.loop-i.steps (omega arith) made c.args.k c.in_ok-load.ensures.reply;
    }
