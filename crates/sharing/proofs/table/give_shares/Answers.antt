use Rattle.std.proofs.Common.{ℕ, ◌<◌, map, replicate, pos, sum, sym, ap, ◌∙◌, arith}
use Rattle.std.proofs.lemmas.List.{length-map}
use Rattle.sharing.specs.Rule.{most_parts}
use Rattle.sharing.proofs.InOrder.{shares_none}
use Rattle.sharing.proofs.table.give_shares.Goals as goal

pub returns-else-total : goal.returns-else-total
returns-else-total g c =
    let ws = map g.P.Portion.portion c.args.parts.now in
    let much : most_parts < sum ws = omega arith in
    c.no_shares.ensures
    ∙ ap (λ (n : ℕ). replicate n (pos 0)) (sym (length-map c.args.parts.now g.P.Portion.portion))
    ∙ sym (shares_none g.S.SharingRule.share g.met.S.SharingRule.fair c.args.cents (sum ws) ws much)
