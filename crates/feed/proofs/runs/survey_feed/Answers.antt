use Rattle.std.proofs.Common.{◌≡◌, ℕ, ◌+◌, ◌-◌, List, [], ◌∷◌, ◌++◌, length, Some, None, Ok, Option, sym, refl, ap, ◌∙◌, subst, arith, rules}
use Rattle.std.proofs.lemmas.List.{length_push, length-drop}
use Rattle.faults.specs.declared.fault.Fault.{Fault}
use Rattle.feed.specs.Entries.{Entry}
use Rattle.feed.specs.Front.{front, size, whole}
use Rattle.feed.specs.Reading.{says, answered, answer}
use Rattle.feed.specs.Runs.{Reads, Surveyed, stop_of}
use Rattle.feed.proofs.Fronts.{answer_some, front_whole}
use Rattle.feed.proofs.Later.{reads_push}
use Rattle.feed.proofs.runs.survey_feed.Goals as goal

pub loop-record-init : goal.loop-record-init
loop-record-init c =
    let o : c.new-reader.result.offset ≡ 0 = omega (arith, c.new-reader.ensures.offset) in
    (omega arith, omega (arith, ap length c.new-reader.ensures.rest), ([], sym c.new-reader.ensures.rest, refl))

-- what the reader stood at, where it handed a record out
stood : (c : goal.In-Ok-Some) → front c.loop-record.reader.rest.now ≡ whole (says c.in-Ok-Some._record) (size (front c.loop-record.reader.rest.now))
stood c =
    let h : answered (Ok (Some c.in-Ok-Some._record)) ≡ answer c.loop-record.reader.offset (front c.loop-record.reader.rest.now) = search rules in
    answer_some c.loop-record.reader.offset (front c.loop-record.reader.rest.now) (says c.in-Ok-Some._record) h

pub loop-record-preserved : goal.loop-record-preserved
loop-record-preserved c =
    let bs : List ℕ = c.loop-record.reader.rest.now in
    let e : Entry = says c.in-Ok-Some._record in
    let es : List Entry = c.loop-record.invariant.2.0 in
    let w = front_whole e (size (front bs)) bs (stood c) in (
      omega (arith, w.0, c.next.ensures.moved),
      omega (arith, w.1, c.next.ensures.moved, ap length c.next.ensures.left, length-drop (size (front bs)) bs),
      (
        es ++ e ∷ [],
        subst (Reads c.args.feed.now (es ++ e ∷ [])) (sym c.next.ensures.left) (reads_push c.args.feed.now es bs e (size (front bs)) c.loop-record.invariant.2.1 (stood c)),
        length_push es e ∙ ap (λ n. n + 1) c.loop-record.invariant.2.2,
      ),
    )

pub loop-record-smaller : goal.loop-record-smaller
loop-record-smaller c =
    let bs : List ℕ = c.loop-record.reader.rest.now in
    let w = front_whole (says c.in-Ok-Some._record) (size (front bs)) bs (stood c) in
    omega (arith, w.0, w.1, ap length c.next.ensures.left, length-drop (size (front bs)) bs)

-- where the reader stops: at offset o it answers that the feed has ended, or a refusal
stopped : (bs left : List ℕ) (es : List Entry) (o n : ℕ) (refusal : Option Fault) → o + length left ≡ length bs → Reads bs es left → length es ≡ n
    → stop_of refusal ≡ answer o (front left) → Surveyed bs n refusal
stopped bs left es o n refusal h r c s =
    let e : length bs - length left ≡ o = omega arith in
    record { records = es; left = left; reads = r; count = c; stops = rw e (sym s) }

pub returns-in-Ok-None : goal.returns-in-Ok-None
returns-in-Ok-None c = stopped c.args.feed.now c.loop-record.reader.rest.now c.loop-record.invariant.2.0 c.loop-record.reader.offset c.loop-record.records None
    c.loop-record.invariant.1 c.loop-record.invariant.2.1 c.loop-record.invariant.2.2 (search rules)

pub returns-in-Err : goal.returns-in-Err
returns-in-Err c = stopped c.args.feed.now c.loop-record.reader.rest.now c.loop-record.invariant.2.0 c.loop-record.reader.offset c.loop-record.records (Some c.in-Err.fault)
    c.loop-record.invariant.1 c.loop-record.invariant.2.1 c.loop-record.invariant.2.2 c.in-Err.ensures.told
