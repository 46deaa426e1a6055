use Rattle.std.proofs.Common.{◌≡◌, ℕ, ◌+◌, ◌<◌, ◌≤◌, List, [], ◌∷◌, ◌++◌, map, length, get_or, take, Ok, Err, Result, ℤ, sym, ap, ◌∙◌, arith, w64, SFits, to_z, of_z, rules}
use Rattle.std.specs.Result.{IsOk, OnOk}
use Rattle.std.proofs.lemmas.List.{get_or-map, length-map, take_all}
use Rattle.std.proofs.lemmas.Int.{to_z-of_z}
use Rattle.std.proofs.lemmas.List.Sums.{sum_by_more, sum_by-take-le}
use Rattle.sharing.specs.Rule.{Rule}
use Rattle.sharing.specs.SharedOut.{most_shares}
use Rattle.sharing.specs.Shares.{shares}
use Rattle.sharing.proofs.InOrder.{room_for, shares_more}
use Rattle.sharing.proofs.table.give_in_order.Given.{Over}
use Rattle.sharing.proofs.table.give_in_order.Goals as goal

-- the part that comes is its element of the parts
part_is : (g : Over) (c : goal.After-push g) → c.portion-part.result ≡ get_or (map g.P.Portion.portion c.args.parts.now) c.loop-item.item-index 0
part_is g c =
    c.portion-part.ensures
    ∙ ap g.P.Portion.portion c.item-item.is
    ∙ sym (get_or-map g.P.Portion.portion c.args.parts.now c.loop-item.item-index c.item-item.result 0 c.loop-item-test.true)

pushed : {P : Type 0} (r : Result (Unit {0}) ℤ) → IsOk r → OnOk r P → P
pushed (Ok u) h p = p
pushed (Err e) h p = cc

after_push : (xs ys zs : List ℤ) (v w : ℤ) → ys ≡ xs ++ v ∷ [] → v ≡ w → xs ++ w ∷ [] ≡ zs → ys ≡ zs
after_push xs ys zs v w e f h = e ∙ ap (λ (z : ℤ). xs ++ z ∷ []) f ∙ h

pub overflow_add-before : goal.overflow_add-before
overflow_add-before g c =
    let ws = map g.P.Portion.portion c.args.parts.now in
    let i = c.loop-item.item-index in
    let h : i < length ws = rw length-map c.loop-item-test.true in
    let w = part_is g c in
    let m = sum_by_more (λ x. x) ws i 0 h in
    let l = sum_by-take-le (λ x. x) ws (i + 1) in
    omega arith

pub loop-item-preserved : goal.loop-item-preserved
loop-item-preserved g c =
    let ws = map g.P.Portion.portion c.args.parts.now in
    let i = c.loop-item.item-index in
    let h : i < length ws = rw length-map c.loop-item-test.true in
    let few : length ws ≤ most_shares = rw length-map c.requires.few in
    let f : SFits w64 c.share_of.result = search rules in
    let fc : SFits w64 c.args.cents = c.ranges.cents in
    let share = g.S.SharingRule.share in
    let room = room_for share (to_z w64 (of_z w64 c.args.cents)) c.args.total ws i c.loop-item.given.items h few c.loop-item.invariant.1 in
    let more = shares_more share (to_z w64 (of_z w64 c.args.cents)) c.args.total ws i c.loop-item.given.items c.loop-item.before c.portion-part.result c.share_of.result h c.loop-item.invariant.0 (part_is g c) c.share_of.ensures c.loop-item.invariant.1 in
    let is = pushed c.push.result (c.push.ensures.reply.1 room) c.push.ensures.added in
    (more.0, after_push c.loop-item.given.items _ _ _ _ is (to_z-of_z w64 c.share_of.result f) more.1)

all_given : (r : Rule) (T T' : ℤ) (W : ℕ) (ws : List ℕ) (i : ℕ) (zs : List ℤ) → zs ≡ shares r T 0 W (take i ws) → length ws ≤ i → T ≡ T' → zs ≡ shares r T' 0 W ws
all_given r T T' W ws i zs e h f = e ∙ ap (shares r T 0 W) (take_all i ws h) ∙ ap (λ (z : ℤ). shares r z 0 W ws) f

pub returns : goal.returns
returns g c =
    let ws = map g.P.Portion.portion c.args.parts.now in
    let e : length ws ≤ c.loop-item.item-index = rw length-map (omega arith) in
    all_given g.S.SharingRule.share _ c.args.cents c.args.total ws c.loop-item.item-index c.loop-item.given.items c.loop-item.invariant.1 e (to_z-of_z w64 c.args.cents c.ranges.cents)
