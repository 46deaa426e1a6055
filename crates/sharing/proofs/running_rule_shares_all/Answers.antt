use Rattle.sharing.proofs.Extremes.{running_shares_all}
use Rattle.sharing.proofs.running_rule_shares_all.Goals as goal

pub returns : goal.returns
returns c = running_shares_all
