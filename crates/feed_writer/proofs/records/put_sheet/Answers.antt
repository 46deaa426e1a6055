use Rattle.std.proofs.Common.{arith}
use Rattle.std.proofs.lemmas.List.{length-append}
use Rattle.feed_writer.specs.Bytes.{sheet_bytes}
use Rattle.feed_writer.proofs.Buffers.{follows, length_numbers, length_row_numbers, length_schedules}
use Rattle.feed_writer.proofs.records.put_sheet.Goals as goal

pub returns : goal.returns
unfolding sheet_bytes
returns c =
    let a = length_numbers c.args.sheet.shadow_prices.now in
    let b = length_numbers c.args.sheet.targets.now in
    let d = length_row_numbers (λ r. r.number) c.args.sheet.rows.now in
    let e = length_schedules c.args.sheet.rows.now in
    record {
      holds =
          follows _ _ _ _ _ _ _ (follows _ _ _ _ _ _ _ (follows _ _ _ _ _ _ _ c.put_each-at.ensures.holds
          c.put_each-at-2.ensures.holds (omega arith) (omega arith))
          c.put_each-at-3.ensures.holds (simp length-append (omega arith)) (omega arith))
          c.put_each.ensures.holds (simp length-append (omega arith)) (omega arith);
      fits = record {
        prices = c.put_each-at.ensures.fits;
        targets = c.put_each-at-2.ensures.fits;
        numbers = c.put_each-at-3.ensures.fits;
        rows = c.put_each.ensures.fits;
      };
    }
