use Rattle.std.proofs.Common.{◌≡◌, ℕ, ◌≤◌, take, replicate, pos, ap, ◌∙◌, arith}
use Rattle.std.proofs.lemmas.List.{length-replicate, take_all, take-replicate}
use Rattle.sharing.specs.SharedOut.{most_shares}
use Rattle.sharing.proofs.table.no_shares.Goals as goal

-- as many zeros as there are parts
zeros : (n : ℕ) → n ≤ most_shares → take most_shares (take n (replicate most_shares (pos 0))) ≡ replicate n (pos 0)
zeros n h =
    ap (take most_shares) (take-replicate n most_shares (pos 0) h)
    ∙ take_all most_shares (replicate n (pos 0)) (omega (arith, length-replicate n (pos 0)))

pub returns : goal.returns
returns c = c.first_of.ensures.value ∙ zeros c.args.count c.requires
