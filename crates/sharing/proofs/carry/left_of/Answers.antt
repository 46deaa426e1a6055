use Rattle.std.proofs.Common.{pos, ◌-ℤ◌, ◌*ℤ◌, arith, SFits}
use mir.Syntax.{w128}
use Rattle.std.proofs.lemmas.Int.{ints, to_z-of_z}
use Rattle.sharing.specs.Shares.{grains_per_cent}
use Rattle.sharing.proofs.carry.left_of.Goals as goal

pub returns : goal.returns
returns c =
    let grains = c.ranges.grains in
    let a : SFits w128 c.args.grains = omega (arith, ints) in
    let b : SFits w128 c.args.cents = omega (arith, ints) in
    let d : SFits w128 (pos grains_per_cent *ℤ c.args.cents) = omega (arith, ints) in
    let e : SFits w128 (c.args.grains -ℤ pos grains_per_cent *ℤ c.args.cents) = omega (arith, ints) in
    simp to_z-of_z
