use Rattle.std.proofs.Common.{◌≡◌, false, Ok, Err, refl, sym, ap, ◌∙◌, rules}
use Rattle.curves.specs.Book.{curves_of}
use Rattle.feed.specs.Front.{front}
use Rattle.feed.specs.Reading.{answered, says}
use Rattle.settlement.specs.Course.{state_of}
use Rattle.engine.proofs.Advanced.{is_truncated, waits_at_end, waits_inside, settled_at, stopped_at, lasting}
use Rattle.engine.proofs.advancing.advance.Goals as goal

pub returns-in-Ok-Some : goal.returns-in-Ok-Some
returns-in-Ok-Some g c =
    let s = state_of c.args.ledger c.args.house.now in
    let step =
    settled_at (g.M.LocationMap.market c.args.house.now.map.now) g.S.SharingRule.share (curves_of c.args.house.now.curves.now) c.args.reader.now.offset s c.settle-next.new.out (front c.args.reader.now.rest.now)
    (says c.in-Ok-Some.request) c.settle-next.result.1 _ c.offset-offset.result c.offset-offset.ensures
    (ap (λ o. answered (Ok o)) (sym c.in-Ok-Some.field-0-is) ∙ c.in-Ok-Some.ensures.told) c.settle-next.ensures.settled in
    record {
      step = step;
      moved = c.in-Ok-Some.ensures.moved;
      left = c.in-Ok-Some.ensures.left;
      law = λ log run. lasting (g.M.LocationMap.market c.args.house.now.map.now) (g.met.M.LocationMap.lawful c.args.house.now.map.now) g.S.SharingRule.share g.met.S.SharingRule.fair (curves_of c.args.house.now.curves.now) c.args.reader.now.offset s _ _ c.settle-next.new.out log run (front c.args.reader.now.rest.now) step;
      rules = c.settle-next.ensures.rules;
    }

pub returns-in-Ok-None : goal.returns-in-Ok-None
returns-in-Ok-None g c =
    let s = state_of c.args.ledger c.args.house.now in
    let step =
    waits_at_end (g.M.LocationMap.market c.args.house.now.map.now) g.S.SharingRule.share (curves_of c.args.house.now.curves.now) c.args.reader.now.offset s c.args.out.now (front c.args.reader.now.rest.now)
    (ap (λ o. answered (Ok o)) (sym c.in-Ok-None.field-0-is) ∙ c.in-Ok-None.ensures.told) in
    record {
      step = step;
      moved = c.in-Ok-None.ensures.moved;
      left = c.in-Ok-None.ensures.left;
      law = λ log run. lasting (g.M.LocationMap.market c.args.house.now.map.now) (g.met.M.LocationMap.lawful c.args.house.now.map.now) g.S.SharingRule.share g.met.S.SharingRule.fair (curves_of c.args.house.now.curves.now) c.args.reader.now.offset s s _ c.args.out.now log run (front c.args.reader.now.rest.now) step;
      rules = record { map = refl; curves = refl };
    }

pub returns-in-Err-Truncated : goal.returns-in-Err-Truncated
returns-in-Err-Truncated g c =
    let s = state_of c.args.ledger c.args.house.now in
    let step =
    waits_inside (g.M.LocationMap.market c.args.house.now.map.now) g.S.SharingRule.share (curves_of c.args.house.now.curves.now) c.args.reader.now.offset s c.args.out.now (front c.args.reader.now.rest.now)
    c.in-Err-Truncated.field-0-0 (ap (λ f. Err f) (sym c.in-Err-Truncated.field-0-is) ∙ c.in-Err-Truncated.ensures.told) in
    record {
      step = step;
      moved = c.in-Err-Truncated.ensures.moved;
      left = c.in-Err-Truncated.ensures.left;
      law = λ log run. lasting (g.M.LocationMap.market c.args.house.now.map.now) (g.met.M.LocationMap.lawful c.args.house.now.map.now) g.S.SharingRule.share g.met.S.SharingRule.fair (curves_of c.args.house.now.curves.now) c.args.reader.now.offset s s _ c.args.out.now log run (front c.args.reader.now.rest.now) step;
      rules = record { map = refl; curves = refl };
    }

pub returns-in-Err : goal.returns-in-Err
returns-in-Err g c =
    let s = state_of c.args.ledger c.args.house.now in
    let other : is_truncated c.in-Err.fault ≡ false = search rules in
    let step =
    stopped_at (g.M.LocationMap.market c.args.house.now.map.now) g.S.SharingRule.share (curves_of c.args.house.now.curves.now) c.args.reader.now.offset s c.refuse.new.out (front c.args.reader.now.rest.now)
    c.in-Err.fault c.refuse.result c.offset-offset.result c.offset-offset.ensures c.in-Err.ensures.told other c.refuse.ensures.answer c.refuse.ensures.lines in
    record {
      step = step;
      moved = c.in-Err.ensures.moved;
      left = c.in-Err.ensures.left;
      law = λ log run. lasting (g.M.LocationMap.market c.args.house.now.map.now) (g.met.M.LocationMap.lawful c.args.house.now.map.now) g.S.SharingRule.share g.met.S.SharingRule.fair (curves_of c.args.house.now.curves.now) c.args.reader.now.offset s s _ c.refuse.new.out log run (front c.args.reader.now.rest.now) step;
      rules = record { map = refl; curves = refl };
    }
