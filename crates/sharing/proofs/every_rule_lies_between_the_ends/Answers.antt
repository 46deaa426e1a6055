use Rattle.sharing.proofs.Extremes.{between_the_ends}
use Rattle.sharing.proofs.every_rule_lies_between_the_ends.Goals as goal

pub returns : goal.returns
returns g c = between_the_ends g.S.SharingRule.share g.met.S.SharingRule.fair
