use Rattle.std.proofs.Common.{◌≡◌, ◌≤◌, List, map, length, ℤ, pos, ◌+ℤ◌, ◌*ℤ◌, sym, ap, ◌∙◌, subst, w64, SFits, to_z, of_z, rules}
use mir.Syntax.{w128}
use Rattle.std.proofs.lemmas.List.{length-map}
use Rattle.std.proofs.lemmas.Int.{to_z-of_z}
use Rattle.sharing.specs.Shares.{grains_per_cent, whole, total}
use Rattle.sharing.specs.SharedOut.{most_shares, SharedOut}
use Rattle.sharing.proofs.Made.{made}
use Rattle.sharing.proofs.shares.share_among.Given.{Over}
use Rattle.sharing.proofs.shares.share_among.Goals as goal

out : (g : Over) (c : goal.After-carry_of-carry g)
    → SharedOut g.S.SharingRule.share c.args.grains (map g.P.Portion.portion c.args.parts.now) (record { cents = c.give_shares.new.given; carry = c.carry_of-carry.result })
    × SFits w64 c.carry_of-carry.result
out g c =
    let ws = map g.P.Portion.portion c.args.parts.now in
    let grains = to_z-of_z w64 c.args.grains c.ranges.grains in
    let f : SFits w64 c.whole_cents.result = search rules in
    let few : length ws ≤ most_shares = rw length-map c.requires in
    let kept : pos grains_per_cent *ℤ total c.give_shares.new.given.items +ℤ c.carry_of-carry.result ≡ c.args.grains =
    ap (λ (l : List ℤ). pos grains_per_cent *ℤ total l +ℤ c.carry_of-carry.result) (sym c.as_slice.ensures.value) ∙ c.carry_of-carry.ensures ∙ grains in
    made g.S.SharingRule.share g.met.S.SharingRule.fair c.args.grains ws c.ranges.grains few
    (to_z w64 (of_z w64 c.whole_cents.result)) (to_z-of_z w64 c.whole_cents.result f ∙ c.whole_cents.ensures ∙ ap whole grains)
    c.give_shares.new.given c.give_shares.ensures
    c.carry_of-carry.result kept

-- the carry, widened
wide : (g : Over) (c : goal.After-carry_of-carry g) → to_z w128 (of_z w128 c.carry_of-carry.result) ≡ c.carry_of-carry.result
wide g c = to_z-of_z w128 c.carry_of-carry.result (record { sfits = c.carry_of-carry.type_inv })

pub overflow_cast-carry : goal.overflow_cast-carry
overflow_cast-carry g c = subst (SFits w64) (sym (wide g c)) (out g c).1

pub returns : goal.returns
returns g c =
    let o = out g c in
    let e : to_z w64 (of_z w64 (to_z w128 (of_z w128 c.carry_of-carry.result))) ≡ c.carry_of-carry.result = ap (λ (z : ℤ). to_z w64 (of_z w64 z)) (wide g c) ∙ to_z-of_z w64 c.carry_of-carry.result o.1 in
    subst (λ (z : ℤ). SharedOut g.S.SharingRule.share c.args.grains (map g.P.Portion.portion c.args.parts.now) (record { cents = c.give_shares.new.given; carry = z })) (sym e) o.0
