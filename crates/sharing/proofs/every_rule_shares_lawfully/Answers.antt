use Rattle.sharing.proofs.Law.{sharing_law}
use Rattle.sharing.proofs.every_rule_shares_lawfully.Goals as goal

pub returns : goal.returns
returns g c = sharing_law g.S.SharingRule.share g.met.S.SharingRule.fair
