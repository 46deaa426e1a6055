use Rattle.std.proofs.Common.{◌≡◌, ◌+◌, ◌∷◌, ◌++◌, [], ◌^◌, ◌<◌, ◌≤◌, ◌⊎◌, map, length, get_or, take, sym, refl, ap, ◌∙◌, subst, inl, inr, arith, rules, length-append}
use Rattle.std.proofs.lemmas.Bool.{cases_lt}
use Rattle.std.proofs.lemmas.List.{get_or-map, length-map, length-take}
use Rattle.std.proofs.lemmas.Slice.Zip.{zip_turn, zip_end}
use Rattle.sums.proofs.Tables.{same_all}
use Rattle.market.specs.Prices.{none_reserved}
use Rattle.market.specs.Totals.{Tallies, no_totals}
use Rattle.market.proofs.Tallying.{tallies_none, tallies_more, tallies_all, at_most_of}
use Rattle.market.proofs.quantity.totals_of.Goals as goal

pub loop-place-init : goal.loop-place-init
loop-place-init g c =
    let none : c.default-totals.result ≡ no_totals = search rules in
    rw none (tallies_none (map g.P.Placed.place c.args.places.now) (map g.R.Scheduled.scheduled c.args.rows.now) _ refl (λ j. same_all 16 j no_totals))

pub add-requires : goal.add-requires
add-requires g c =
    let ls = map g.P.Placed.place c.args.places.now in
    let i = length c.loop-place.yielded in
    let same : length ls ≡ length c.args.places.now = length-map _ _ in
    let n : length (take i ls) ≤ 2 ^ 64 = rw length-take (omega (arith, c.iter.ensures.bound)) in
    at_most_of (take i ls) _ c.loop-place.totals n c.loop-place.invariant

pub loop-place-preserved : goal.loop-place-preserved
loop-place-preserved g c =
    let places = c.args.places.now in
    let rows = c.args.rows.now in
    let ls = map g.P.Placed.place places in
    let rs = map g.R.Scheduled.scheduled rows in
    let i = length c.loop-place.yielded in
    let turn = zip_turn places rows c.loop-place.yielded c.into_iter-place-iterator.result c.loop-place.place-iterator c.next.new.self c.next.result (search rules) (search rules) c.loop-place.yielded_by (c.in-Some.place, c.in-Some.row) c.in-Some.is c.next.ensures.steps in
    let h : i < length ls = rw length-map turn.0 in
    let k : i < length rs = rw length-map turn.1 in
    let e : get_or ls i 0 ≡ c.location.result = get_or-map g.P.Placed.place places i c.in-Some.place.now 0 turn.0 ∙ ap g.P.Placed.place (sym (turn.2 c.in-Some.place.now)) ∙ sym c.location.ensures in
    let f : get_or rs i none_reserved ≡ c.reserves.result = get_or-map g.R.Scheduled.scheduled rows i c.in-Some.row.now none_reserved turn.1 ∙ ap g.R.Scheduled.scheduled (sym (turn.3 c.in-Some.row.now)) ∙ sym c.reserves.ensures in
    let w = tallies_more ls rs c.loop-place.totals i h k (rw f c.add.ensures.thirty) (rw f c.add.ensures.ten) (rw f c.add.ensures.spinning) c.loop-place.invariant in
    let one : length (c.loop-place.yielded ++ (c.in-Some.place, c.in-Some.row) ∷ []) ≡ i + 1 = length-append c.loop-place.yielded ((c.in-Some.place, c.in-Some.row) ∷ []) in
    rw one (subst (Tallies (take (i + 1) ls) (take (i + 1) rs)) (sym c.add.ensures.after) (rw (e, f) at w))

pub returns : goal.returns
returns g c =
    let places = c.args.places.now in
    let rows = c.args.rows.now in
    let ls = map g.P.Placed.place places in
    let rs = map g.R.Scheduled.scheduled rows in
    let i = length c.loop-place.yielded in
    let end = zip_end places rows c.loop-place.yielded c.into_iter-place-iterator.result c.loop-place.place-iterator c.next.new.self c.next.result (search rules) (search rules) c.loop-place.yielded_by c.in-None.is c.next.ensures.steps in
    let short : (length ls ≤ i) ⊎ (length rs ≤ i) = elim (cases_lt (length rows) (length places)) [
      | inl l ↦ inr (rw length-map (omega arith))
      | inr l ↦ inl (rw length-map (omega arith))
    ] in
    tallies_all ls rs c.loop-place.totals i short c.loop-place.invariant
