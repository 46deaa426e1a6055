use Rattle.accounts.proofs.Posts.{terms_keep_rule}
use Rattle.accounts.proofs.terms_keep_the_rule.Goals as goal

pub returns : goal.returns
returns c = terms_keep_rule
