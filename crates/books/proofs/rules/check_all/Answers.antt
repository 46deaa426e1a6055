use Rattle.std.proofs.Common.{rules, tests}
use Rattle.std.proofs.lemmas.Iterator.{YieldsList-from_slice}
use Rattle.std.proofs.lemmas.Iterator.Search.{position_from_yields_List}
use Rattle.books.proofs.Firsts.{first_one}
use Rattle.books.proofs.rules.check_all.Goals as goal

pub returns : goal.returns
returns g c rule of keeps faults = first_one rule of c.args.items.now _ _ c.map_or.ensures (λ i k. search rules) (position_from_yields_List _ _ _ _ c.position.ensures.ran (YieldsList-from_slice c.args.items.now cc) (λ x b q k. search (rules, tests)))
