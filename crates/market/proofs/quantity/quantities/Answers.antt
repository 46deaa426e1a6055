use Rattle.std.proofs.Common.{◌≡◌, ℕ, ◌^◌, ◌<◌, ◌≤◌, map, length, get_or, refl, ◌∙◌, inl, inr, arith, length-set}
use Rattle.std.proofs.lemmas.List.{length-map, get_or-set_other}
use Rattle.std.proofs.lemmas.Bool.{cases_lt}
use Rattle.sums.proofs.Tables.{same_all, table_more}
use Rattle.market.specs.Prices.{quantity}
use Rattle.market.proofs.Tallying.{at_most_of, quantity_beyond, quantity_at_most}
use Rattle.market.proofs.quantity.quantities.Goals as goal

pub loop-requirement-init : goal.loop-requirement-init
loop-requirement-init g c = (refl, (λ k h. absurd (omega arith)), (λ k h. same_all 32 k 0))

pub quantity_toward-requires : goal.quantity_toward-requires
quantity_toward-requires g c =
    let ls = map g.P.Placed.place c.args.places.now in
    let n : length ls ≤ 2 ^ 64 = rw length-map (omega arith) in
    record { low = at_most_of ls _ c.totals_of-totals.result n c.totals_of-totals.ensures }

pub loop-requirement-preserved : goal.loop-requirement-preserved
loop-requirement-preserved g c =
    let few = (g.met.M.LocationMap.lawful c.args.map.now).few_requirements in
    let h : c.loop-requirement.requirement < length c.loop-requirement.table = omega arith in (
      length-set _ _ _ ∙ c.loop-requirement.invariant.0,
      table_more _ 0 c.loop-requirement.table c.loop-requirement.requirement c.quantity_toward.result h c.quantity_toward.ensures c.loop-requirement.invariant.1,
      λ k l. get_or-set_other c.loop-requirement.table c.loop-requirement.requirement k c.quantity_toward.result 0 (λ q. omega arith) ∙ c.loop-requirement.invariant.2 k (omega arith),
    )

pub returns : goal.returns
returns g c =
    let m = g.M.LocationMap.market c.args.map.now in
    let law = g.met.M.LocationMap.lawful c.args.map.now in
    let ls = map g.P.Placed.place c.args.places.now in
    let rs = map g.R.Scheduled.scheduled c.args.rows.now in
    let value : (k : ℕ) → get_or c.loop-requirement.table k 0 ≡ quantity m ls rs k = λ k. elim (cases_lt k c.loop-requirement.requirement) [
      | inl h ↦ c.loop-requirement.invariant.1 k h ∙ c.totals_of-totals.ensures.same m law k
      | inr h ↦ c.loop-requirement.invariant.2 k h ∙ quantity_beyond m law ls rs k (omega arith)
    ] in
    let n : length ls ≡ length c.args.places.now = length-map _ _ in
    record {
      value = value;
      bound = λ k. omega (arith, value k, quantity_at_most ls rs c.totals_of-totals.result c.totals_of-totals.ensures m law k);
    }
