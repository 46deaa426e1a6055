use Rattle.std.proofs.Common.{refl, rules}
use Rattle.feed.specs.Entries.{opening}
use Rattle.feed_writer.proofs.Trips.{wrote_either}
use Rattle.feed_writer.proofs.records.write_open.Goals as goal

pub returns : goal.returns
returns c =
    wrote_either (opening c.args.hour) c.write_number.result c.args.buffer.now _ refl (search rules)
    c.write_number.ensures.reply c.write_number.ensures.fits c.write_number.ensures.holds
