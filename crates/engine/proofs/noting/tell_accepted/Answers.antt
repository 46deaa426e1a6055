use Rattle.std.proofs.Common.{sym, ap, ◌∙◌, arith}
use Rattle.std.proofs.lemmas.List.{drop_all}
use Rattle.std.specs.Prelude.{option_map}
use Rattle.lines.specs.Texts.{texts}
use Rattle.settlement.specs.Course.{state_of}
use Rattle.engine.specs.Telling.{noted_lines}
use Rattle.engine.proofs.noting.tell_accepted.Goals as goal

pub returns-in-None : goal.returns-in-None
returns-in-None g c =
    drop_all 17710 c.args.out.now (omega arith)
    ∙ ap (λ n. texts (noted_lines (option_map (λ m. m.now) n) (state_of c.args.ledger.now c.args.house.now))) (sym c.in-None.is)
