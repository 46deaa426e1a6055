use Rattle.std.proofs.Common.{◌≡◌, ℕ, ◌^◌, ◌<◌, ◌≤◌, ℤ, pos, ◌-ℤ◌, ◌*ℤ◌, nat_abs, ap, ◌∙◌, mul-le-mul, arith, SFits, to_z, of_z}
use mir.Syntax.{w128}
use Rattle.std.proofs.lemmas.Int.{ints, to_z-of_z, to_z_pos}
use Rattle.sums.proofs.Sizes.{abs_times}
use Rattle.accounts.proofs.posting.product_earned.Goals as goal

-- the product as the code computes it
abbrev computed : ℕ → ℕ → ℕ → ℤ
computed p x y = to_z w128 p *ℤ to_z w128 (of_z w128 (to_z w128 x -ℤ to_z w128 y))

module _ (p x y : ℕ) (hp : p < 2 ^ 64) (hx : x < 2 ^ 32) (hy : y < 2 ^ 32) where
  is : computed p x y ≡ pos p *ℤ (pos x -ℤ pos y)
  is =
      let d : to_z w128 (of_z w128 (to_z w128 x -ℤ to_z w128 y)) ≡ pos x -ℤ pos y = omega (arith, ints) in
      ap (λ (z : ℤ). to_z w128 p *ℤ z) d ∙ ap (λ (z : ℤ). z *ℤ (pos x -ℤ pos y)) (to_z_pos w128 p (omega arith))

  bound : nat_abs (pos p *ℤ (pos x -ℤ pos y)) ≤ 2 ^ 96
  bound =
      let a : p ≤ 2 ^ 64 = omega arith in
      let b : nat_abs (pos x -ℤ pos y) ≤ 2 ^ 32 = omega (arith, ints) in
      rw abs_times (mul-le-mul a b)

  fits : SFits w128 (pos p *ℤ (pos x -ℤ pos y))
  fits = let b = bound in omega (arith, ints)

pub overflow_mul-result : goal.overflow_mul-result
overflow_mul-result c =
    let p = c.args.price in
    let x = c.args.scheduled in
    let y = c.args.paid in
    rw (is p x y (omega arith) (omega arith) (omega arith)) (fits p x y (omega arith) (omega arith) (omega arith))

pub returns : goal.returns
returns c =
    let p = c.args.price in
    let x = c.args.scheduled in
    let y = c.args.paid in
    let e = is p x y (omega arith) (omega arith) (omega arith) in
    let f = fits p x y (omega arith) (omega arith) (omega arith) in
    let v : to_z w128 (of_z w128 (computed p x y)) ≡ pos p *ℤ (pos x -ℤ pos y) = ap (λ (z : ℤ). to_z w128 (of_z w128 z)) e ∙ to_z-of_z w128 _ f in
    record { value = v; bound = rw v (bound p x y (omega arith) (omega arith) (omega arith)) }
