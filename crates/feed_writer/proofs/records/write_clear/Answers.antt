use Rattle.std.proofs.Common.{◌≡◌, length, arith}
use Rattle.std.proofs.lemmas.Bool.{eq-eqb}
use Rattle.feed.specs.Entries.{clearing}
use Rattle.feed_writer.specs.Writing.{sheet_values}
use Rattle.feed_writer.specs.Lengths.{length_header}
use Rattle.feed_writer.proofs.Buffers.{follows}
use Rattle.feed_writer.proofs.Trips.{wrote, length_sheet}
use Rattle.feed_writer.proofs.records.write_clear.Goals as goal

pub returns : goal.returns
returns c =
    let s = c.in_ok-length.ensures.fits in
    let a = s.whole in
    let b = s.fits in
    let h = length_header 4 (length c.args.sheet.shadow_prices.now) (length c.args.sheet.rows.now) in
    let p : length c.args.sheet.shadow_prices.now ≡ length c.args.sheet.targets.now = c.in_ok-length.ensures.paired in
    let d = length_sheet (sheet_values c.args.sheet.shadow_prices.now c.args.sheet.targets.now c.args.sheet.rows.now) p in
    wrote (clearing (sheet_values c.args.sheet.shadow_prices.now c.args.sheet.targets.now c.args.sheet.rows.now)) _ c.args.buffer.now _ (eq-eqb _ _ p) s c.put_sheet.ensures.fits
    (follows _ _ _ _ _ _ _ c.in_ok-length.ensures.holds c.put_sheet.ensures.holds (omega arith) (omega arith))
