use Rattle.std.proofs.Common.{◌∙◌}
use Rattle.feed.proofs.Cuts.{closing_cut}
use Rattle.feed.proofs.parts.cutting.cut_withdrawals.Goals as goal

pub returns : goal.returns
returns c =
    closing_cut c.args.bytes.now _ _ c.args.m c.requires (c.new.ensures.numbers ∙ c.split_at.ensures.front) (c.new.ensures.rest ∙ c.split_at.ensures.back)
