use Rattle.engine.proofs.Advanced.{one_more}
use Rattle.engine.proofs.finishing.finish.Goals as goal

pub returns-clause-law : goal.returns-clause-law
returns-clause-law c m lawful rule fair ys q log run =
    one_more m lawful rule fair _ _ _ _ (c.into_rest.ensures m rule ys q) log run
