use Rattle.std.proofs.Common.{◌≡◌, ◌-◌, map, length, take}
use Rattle.std.specs.List.{range_with_len}
use Rattle.curves.specs.Book.{steps_of}
use Rattle.feed.specs.CurveFile.{first_step, curve_steps, file_count, file_curves, curves_verdict}
use Rattle.feed.proofs.curve_file.CurveFile.load_into.Given as goal

abbrev pub invariant-loop-k : goal.invariant-loop-k
invariant-loop-k l =
    (l.first ≡ first_step l.self.bytes.now l.k)
    × (length l.curves ≡ l.self.curves)
    × (map steps_of (take l.k l.curves) ≡ map (curve_steps l.self.bytes.now) (range_with_len 0 l.k))
    × (curves_verdict l.k (map (curve_steps l.self.bytes.now) (range_with_len l.k (file_count l.self.bytes.now - l.k))) ≡ curves_verdict 0 (file_curves l.self.bytes.now))
