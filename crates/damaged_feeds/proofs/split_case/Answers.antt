use Rattle.std.proofs.Common.{rules}
use Rattle.std.proofs.lemmas.List.{take_rest, length-drop}
use Rattle.damaged_feeds.proofs.split_case.Goals as goal

pub returns : goal.returns
returns c =
    let t = take_rest c.args.set.now 4 in
    let e = c.from_le_bytes-length.ensures in
    let f = c.split_at.ensures.front in
    let b = c.split_at.ensures.back in
    (search (rules, take_rest, length-drop), cc, cc)
