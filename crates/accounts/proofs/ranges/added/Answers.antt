use Rattle.std.specs.Prelude.{int_le}
use Rattle.std.proofs.Common.{◌≡◌, ◌≤◌, true, ℤ, pos, ◌+ℤ◌, neg_ℤ, nat_abs, sym, ap, ◌∙◌, arith, w64, SFits, rules}
use mir.Syntax.{w128}
use Rattle.std.proofs.lemmas.Int.{ints, to_z-of_z}
use Rattle.accounts.specs.Ranges.{most_amount, amount_fits_lem}
use Rattle.accounts.proofs.Outcome.{gives}
use Rattle.accounts.proofs.ranges.added.Goals as goal

within : (z : ℤ) → nat_abs z ≤ most_amount → amount_fits_lem z ≡ true
within z h =
    let a : true ≡ int_le (neg_ℤ (pos most_amount)) z = omega (arith, ints) in
    let b : true ≡ int_le z (pos most_amount) = omega (arith, ints) in
    cc (a, b)

pub returns-then-unsigned_abs : goal.returns-then-unsigned_abs
returns-then-unsigned_abs c =
    let sum : ℤ = c.in_ok-sum.sum in
    let z : ℤ = c.args.amount +ℤ c.args.more in
    let fa = c.ranges.amount in
    let fm = c.ranges.more in
    let h = c.in_ok-sum.ensures in
    let fs : SFits w128 sum = search rules in
    let is : sum ≡ z = omega (arith, ints, h.1) in
    let size = simp to_z-of_z at c.unsigned_abs.ensures.value in
    let few : nat_abs sum ≤ most_amount = omega arith in
    let v : amount_fits_lem sum ≡ true = within sum few in
    let fz : SFits w64 sum = omega (arith, ints) in
    gives (amount_fits_lem z) z _ (ap amount_fits_lem (sym is) ∙ v) (simp to_z-of_z is)
