use Rattle.std.proofs.Common.{◌≡◌, ◌*◌, ◌≤◌}
use Rattle.feed.specs.CurveFile.{first_step}
use Rattle.feed.proofs.curve_file.count_steps.Given as goal

abbrev pub invariant-loop-pair : goal.invariant-loop-pair
invariant-loop-pair l = (l.steps ≡ first_step l.bytes l.pair-index) × (l.steps ≤ 65535 * l.pair-index)
