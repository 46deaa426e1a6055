use Rattle.std.proofs.Common.{◌≡◌, ℕ, ◌*◌, ◌^◌, ◌<◌, ◌≤◌, length, get_or, ℤ, pos, nat_abs, ap, ◌∙◌, arith, w64, SFits, rules}
use Rattle.std.proofs.lemmas.List.{take_all}
use Rattle.sharing.specs.Shares.{total}
use Rattle.sharing.specs.SharedOut.{most_shares}
use Rattle.sharing.proofs.InOrder.{sum_more, sum_step}
use Rattle.sharing.proofs.carry.sum_of.Goals as goal

pub loop-share-preserved : goal.loop-share-preserved
loop-share-preserved c =
    let zs = c.args.cents.now in
    let i = c.loop-share.share-index in
    let h : i < length zs = search rules in
    let f : SFits w64 (get_or zs i (pos 0)) = search rules in
    sum_step _ (get_or zs i (pos 0)) _ _ i (length zs) f c.loop-share.invariant.0 c.loop-share.invariant.1 h c.requires (sum_more zs i h)

pub returns : goal.returns
returns c =
    let i : c.loop-share.share-index ≤ length c.args.cents.now = search rules in
    let j : length c.args.cents.now ≤ c.loop-share.share-index = search rules in
    record {
      value = c.loop-share.invariant.0 ∙ ap total (take_all c.loop-share.share-index c.args.cents.now j);
      bound = low _ _ c.loop-share.share-index (length c.args.cents.now) c.loop-share.invariant.0 c.loop-share.invariant.1 i c.requires;
    }
  where
    low : (x s : ℤ) (i n : ℕ) → x ≡ s → nat_abs x ≤ i * 2 ^ 63 → i ≤ n → n ≤ most_shares → nat_abs x ≤ most_shares * 2 ^ 63
    low x s i n e h a b = omega arith
