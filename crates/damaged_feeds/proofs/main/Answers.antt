use Rattle.std.proofs.Common.{ℕ, List, length, drop, ap, arith}
use Rattle.std.proofs.lemmas.List.{length-drop}
use Rattle.feed.specs.Numbers.{le32}
use Rattle.damaged_feeds.proofs.main.Goals as goal

pub loop-case-smaller : goal.loop-case-smaller
loop-case-smaller c =
    let rest : List ℕ = c.loop-case.rest.now in
    let s = c.in-Some.ensures in
    omega (arith, s.0, ap length s.2, length-drop (le32 rest 0) (drop 4 rest), length-drop 4 rest)
