use Rattle.std.proofs.Common.{◌≡◌, ℕ, ◌*◌, ◌≤◌, ℤ, pos, ◌-ℤ◌, ◌*ℤ◌, nat_abs, ap, ◌∙◌, arith, w64, SFits, to_z, of_z}
use Rattle.std.proofs.lemmas.Int.{ints, to_z-of_z, to_z_pos}
use Rattle.law.proofs.Bounds.{for_time}
use Rattle.planning.specs.Plans.{most_cost}
use Rattle.planning.proofs.cost.cost_over.Goals as goal

-- the cost as the code computes it
abbrev computed : ℕ → ℕ → ℕ → ℤ
computed x y d = to_z w64 (of_z w64 (to_z w64 x -ℤ to_z w64 y)) *ℤ to_z w64 d

module _ (x y d : ℕ) (hx : x ≤ most_cost) (hy : y ≤ most_cost) (hd : d ≤ 3600) where
  is : computed x y d ≡ (pos x -ℤ pos y) *ℤ pos d
  is =
      let e : to_z w64 (of_z w64 (to_z w64 x -ℤ to_z w64 y)) ≡ pos x -ℤ pos y = omega (arith, ints) in
      ap (λ (z : ℤ). z *ℤ to_z w64 d) e ∙ ap (λ (z : ℤ). (pos x -ℤ pos y) *ℤ z) (to_z_pos w64 d (omega arith))

  bound : nat_abs ((pos x -ℤ pos y) *ℤ pos d) ≤ most_cost * d
  bound = let b : nat_abs (pos x -ℤ pos y) ≤ most_cost = omega (arith, ints) in for_time (pos x -ℤ pos y) d most_cost b

  fits : SFits w64 ((pos x -ℤ pos y) *ℤ pos d)
  fits =
      let b = bound in
      let l : most_cost * d ≤ 132710400000000000 = omega arith in
      omega (arith, ints)

pub overflow_mul-result : goal.overflow_mul-result
overflow_mul-result c =
    let x = c.args.real in
    let y = c.args.paid in
    let d = c.args.seconds in
    rw (is x y d c.requires.real c.requires.paid c.requires.time) (fits x y d c.requires.real c.requires.paid c.requires.time)

pub returns : goal.returns
returns c =
    let x = c.args.real in
    let y = c.args.paid in
    let d = c.args.seconds in
    let e = is x y d c.requires.real c.requires.paid c.requires.time in
    let f = fits x y d c.requires.real c.requires.paid c.requires.time in
    let v : to_z w64 (of_z w64 (computed x y d)) ≡ (pos x -ℤ pos y) *ℤ pos d = ap (λ (z : ℤ). to_z w64 (of_z w64 z)) e ∙ to_z-of_z w64 _ f in
    record { value = v; bound = rw v (bound x y d c.requires.real c.requires.paid c.requires.time) }
