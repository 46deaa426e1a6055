use Rattle.engine.proofs.Led.{feeds_keep}
use Rattle.engine.proofs.courses.every_feed_keeps_the_law.Goals as goal

pub returns : goal.returns
returns g c map = feeds_keep (g.M.LocationMap.market map) (g.met.M.LocationMap.lawful map) g.S.SharingRule.share g.met.S.SharingRule.fair
