use Rattle.curves.specs.Book.{curves_of}
use Rattle.feed.specs.Reading.{says}
use Rattle.std.specs.Prelude.{option_map}
use Rattle.engine.proofs.Told.{accepted}
use Rattle.engine.proofs.settling.settle_noted.Goals as goal

pub returns-in-Ok-clause-settled : goal.returns-in-Ok-clause-settled
returns-in-Ok-clause-settled g c =
    accepted (g.M.LocationMap.market c.args.house.now.map.now) g.S.SharingRule.share (curves_of c.args.house.now.curves.now) c.args.offset _ _ (says c.args.request) c.apply-next.result.1 (option_map (λ n. n.now) c.args.noted) _
    c.in-Ok.is c.apply-next.ensures.step c.requires.noted c.tell_accepted.ensures
