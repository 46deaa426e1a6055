use Rattle.law.proofs.Kept.{every_run}
use Rattle.law.proofs.every_run_keeps_the_law.Goals as goal

pub returns : goal.returns
returns g c x = every_run (g.M.LocationMap.market x) g.S.SharingRule.share (g.met.M.LocationMap.lawful x) g.met.S.SharingRule.fair
