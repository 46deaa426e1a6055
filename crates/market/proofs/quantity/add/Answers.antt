use Rattle.std.proofs.Common.{sym, rules}
use Rattle.std.proofs.lemmas.List.{set_past}
use Rattle.market.proofs.quantity.add.Goals as goal

pub returns-else-location-totals : goal.returns-else-location-totals
returns-else-location-totals c = record { after = sym (set_past c.args.totals.now c.args.location _ c.if-location-totals.false); thirty = search rules; ten = search rules; spinning = search rules }
