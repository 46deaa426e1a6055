use Rattle.std.proofs.Common.{◌≡◌, Ok, sym, refl, ap, ◌∙◌, arith}
use Rattle.std.proofs.lemmas.List.{take_rest}
use Rattle.std.proofs.lemmas.Result.{err_from_is_err_and}
use Rattle.feed.specs.Front.{front, size, ended, whole}
use Rattle.feed.specs.Reading.{says, long_answered}
use Rattle.feed.proofs.Fronts.{at_some, at_none, at_fault, front_whole}
use Rattle.feed.proofs.reader.Reader.next.Goals as goal

pub returns-in_err-read_front : goal.returns-in_err-read_front
returns-in_err-read_front c =
    let p = err_from_is_err_and c.from_residual.result c.from_residual.ensures.1 in
    let q = at_fault c.args.self.now.offset (front c.args.self.now.rest.now) _ c.in_err-read_front.ensures.told in
    let z : size (front c.args.self.now.rest.now) ≡ 0 = q.1 in
    rw (p.1, p.2) (record { told = q.0; moved = omega arith; left = rw z; onward = (refl, q.2) })

pub returns-in-None : goal.returns-in-None
returns-in-None c =
    let h = sym (ap long_answered (c.in_ok-read_front.was ∙ ap (λ o. Ok o) c.in-None.is)) ∙ c.read_front.ensures.told in
    let e : front c.args.self.now.rest.now ≡ ended = at_none c.args.self.now.offset (front c.args.self.now.rest.now) h in
    record { told = rw e; moved = rw e (omega arith); left = rw e; onward = refl }

pub returns-in-Some : goal.returns-in-Some
returns-in-Some c =
    let h = sym (ap long_answered (c.in_ok-read_front.was ∙ ap (λ o. Ok o) c.in-Some.is)) ∙ c.read_front.ensures.told in
    let e : front c.args.self.now.rest.now ≡ whole (says c.in-Some.record) c.in-Some.length = at_some c.args.self.now.offset (front c.args.self.now.rest.now) _ _ h in
    let w = front_whole (says c.in-Some.record) c.in-Some.length c.args.self.now.rest.now e in
    record { told = rw e; moved = rw e; left = rw e (take_rest c.args.self.now.rest.now c.in-Some.length); onward = (omega (arith, w.0), w.2) }
