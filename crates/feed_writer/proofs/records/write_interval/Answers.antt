use Rattle.std.proofs.Common.{◌≡◌, length, arith, rules}
use Rattle.std.proofs.lemmas.List.{length-append}
use Rattle.std.proofs.lemmas.Bool.{eq-eqb}
use Rattle.feed.specs.Entries.{interval}
use Rattle.feed_writer.specs.Writing.{sheet_values}
use Rattle.feed_writer.specs.Lengths.{length_header, length_bytes32}
use Rattle.feed_writer.proofs.Buffers.{follows}
use Rattle.feed_writer.proofs.Trips.{wrote, length_sheet}
use Rattle.feed_writer.proofs.records.write_interval.Goals as goal

pub returns : goal.returns
returns c =
    let s = c.in_ok-length.ensures.fits in
    let a = s.whole in
    let b = s.fits in
    let h = length_header 5 (length c.args.sheet.shadow_prices.now) (length c.args.sheet.rows.now) in
    let p : length c.args.sheet.shadow_prices.now ≡ length c.args.sheet.targets.now = c.in_ok-length.ensures.paired in
    let d = length_bytes32 c.args.seconds in
    let e = length_sheet (sheet_values c.args.sheet.shadow_prices.now c.args.sheet.targets.now c.args.sheet.rows.now) p in
    wrote (interval c.args.seconds (sheet_values c.args.sheet.shadow_prices.now c.args.sheet.targets.now c.args.sheet.rows.now)) _ c.args.buffer.now _ (eq-eqb _ _ p) s (search rules, c.put_sheet.ensures.fits)
    (follows _ _ _ _ _ _ _ c.in_ok-length.ensures.holds
    (follows _ _ _ _ _ _ _ c.put.ensures c.put_sheet.ensures.holds (omega arith) (omega arith))
    (omega arith) (simp length-append (omega arith)))
