use Rattle.std.proofs.Common.{rules}
use Rattle.std.proofs.lemmas.List.FromFn.{length-map-range_with_len}
use Rattle.feed.proofs.parts.Rows.count.Goals as goal

pub returns-clause-listed : goal.returns-clause-listed
returns-clause-listed g c = simp length-map-range_with_len (search rules)
