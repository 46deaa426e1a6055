use Rattle.std.proofs.Common.{◌≡◌, ◌*◌, ◌^◌, ◌≤◌, take, nat_abs}
use Rattle.sharing.specs.Shares.{total}
use Rattle.sharing.proofs.carry.sum_of.Given as goal

abbrev pub invariant-loop-share : goal.invariant-loop-share
invariant-loop-share l = (l.sum ≡ total (take l.share-index l.cents)) × (nat_abs l.sum ≤ l.share-index * 2 ^ 63)
