use Rattle.std.proofs.Common.{◌∙◌}
use Rattle.feed.proofs.Cuts.{sheet_cut}
use Rattle.feed.proofs.parts.cutting.cut_sheet.Goals as goal

pub returns : goal.returns
returns c =
    sheet_cut c.args.bytes.now _ _ _ _ _ _ c.args.n c.args.m c.requires
    (c.new.ensures.numbers ∙ c.split_at.ensures.front) c.split_at.ensures.back
    (c.new-2.ensures.numbers ∙ c.split_at-2.ensures.front) c.split_at-2.ensures.back
    (c.new-3.ensures.numbers ∙ c.split_at-3.ensures.front) (c.new-3.ensures.rest ∙ c.split_at-3.ensures.back)
