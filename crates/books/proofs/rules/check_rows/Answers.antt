use Rattle.std.proofs.Common.{rules, tests}
use Rattle.std.proofs.lemmas.Iterator.{YieldsList-from_slice, YieldsList-from_zip}
use Rattle.std.proofs.lemmas.Iterator.Search.{position_from_yields_List}
use Rattle.books.proofs.Firsts.{first_pair}
use Rattle.books.proofs.rules.check_rows.Goals as goal

pub returns : goal.returns
returns g c rule of keeps faults =
    first_pair rule of c.args.accounts.now c.args.rows.now _ _ c.map_or.ensures (λ i k. search rules) (position_from_yields_List _ c.position.new.self _ _ c.position.ensures.ran (YieldsList-from_zip {s = c.zip.result} (YieldsList-from_slice c.args.accounts.now cc) (YieldsList-from_slice c.args.rows.now cc)) (λ x b q k. search (rules, tests)))
