use Rattle.std.proofs.Common.{◌≡◌, ◌-◌, take}
use Rattle.sharing.specs.SharedOut.{most_shares}
use Rattle.sharing.proofs.InOrder.{take_first, few_first}
use Rattle.sharing.proofs.shares.first_of.Goals as goal

pub returns : goal.returns
returns g c =
    let e : take (c.min.result - 0) c.args.parts.now ≡ take most_shares c.args.parts.now = take_first most_shares c.min.result c.args.parts.now c.min.ensures in
    record { value = e; few = few_first most_shares c.args.parts.now _ e }
