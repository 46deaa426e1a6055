use Rattle.std.proofs.Common.{◌≡◌, ℕ, ◌^◌, ◌≤◌, ℤ, pos, ◌+ℤ◌, ◌-ℤ◌, ◌*ℤ◌, nat_abs, arith, SFits, to_z, of_z}
use mir.Syntax.{w128}
use Rattle.std.proofs.lemmas.Int.{ints, to_z-of_z}
use Rattle.accounts.proofs.posting.earned.Goals as goal

-- the sum as the code computes it
three : (x y z a b d : ℤ) → nat_abs x ≤ 2 ^ 96 → nat_abs y ≤ 2 ^ 96 → nat_abs z ≤ 2 ^ 96 → x ≡ a → y ≡ b → z ≡ d
    → to_z w128 (of_z w128 (to_z w128 (of_z w128 (to_z w128 (of_z w128 x) +ℤ to_z w128 (of_z w128 y))) +ℤ to_z w128 (of_z w128 z))) ≡ a +ℤ (b +ℤ (d +ℤ pos 0))
three x y z a b d p q r e f g =
    let fx : SFits w128 x = omega (arith, ints) in
    let fy : SFits w128 y = omega (arith, ints) in
    let fz : SFits w128 z = omega (arith, ints) in
    let fxy : SFits w128 (x +ℤ y) = omega (arith, ints) in
    let fxyz : SFits w128 ((x +ℤ y) +ℤ z) = omega (arith, ints) in
    simp to_z-of_z (omega (arith, ints))

abbrev part : ℕ → ℕ → ℕ → ℤ
part price scheduled paid = pos price *ℤ (pos scheduled -ℤ pos paid)

pub returns : goal.returns
returns c =
    let q = c.args.prices.now in
    let r = c.args.scheduled.now in
    let p = c.args.paid.now in
    let x = c.product_earned-thirty in
    let y = c.product_earned-ten in
    let z = c.product_earned-spinning in
    three x.result y.result z.result (part q.thirty r.thirty p.thirty) (part q.ten r.ten p.ten) (part q.spinning r.spinning p.spinning) x.ensures.bound y.ensures.bound z.ensures.bound x.ensures.value y.ensures.value z.ensures.value
