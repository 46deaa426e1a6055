use Rattle.std.proofs.Common.{sym, refl, ap, ◌∙◌}
use Rattle.std.proofs.lemmas.List.{append-nil}
use Rattle.feed.specs.Entries.{voiding}
use Rattle.feed_writer.specs.Bytes.{header}
use Rattle.feed_writer.specs.Writing.{after}
use Rattle.feed_writer.proofs.Trips.{wrote_either}
use Rattle.feed_writer.proofs.records.write_void.Goals as goal

pub returns : goal.returns
returns c =
    wrote_either voiding c.start.result c.args.buffer.now _ refl tt c.start.ensures.reply c.start.ensures.fits
    (c.start.ensures.holds ∙ ap (λ bs. after c.start.result bs c.args.buffer.now) (sym (append-nil (header 7 0 0))))
