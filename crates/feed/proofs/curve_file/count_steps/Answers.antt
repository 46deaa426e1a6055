use Rattle.std.proofs.Common.{◌≡◌, ◌+◌, ◌*◌, ◌-◌, ◌/◌, length, take, drop, ◌∙◌, arith}
use Rattle.std.proofs.lemmas.List.{length-take}
use Rattle.feed.specs.CurveFile.{step_count_lem}
use Rattle.feed.proofs.Counts.{first_step_next, pair_count}
use Rattle.feed.proofs.curve_file.count_steps.Goals as goal

pub loop-pair-preserved : goal.loop-pair-preserved
loop-pair-preserved c =
    let bs = c.args.bytes.now in
    let k = c.loop-pair.pair-index in
    let w = 2 + 2 * c.args.count - 2 in
    let m = length (take w (drop 2 bs)) / 2 in
    let long = length-take w (drop 2 bs) in
    let few = c.as_chunks.ensures.front_len in
    let in_range = c.loop-pair-test.true in
    let bytes : c.from_le_bytes.result ≡ step_count_lem bs k =
    c.from_le_bytes.ensures ∙ rw (c.as_chunks.ensures.front) (pair_count bs m w k (omega arith) (omega arith)) in
    let e = first_step_next bs k in
    (omega arith, omega arith)
