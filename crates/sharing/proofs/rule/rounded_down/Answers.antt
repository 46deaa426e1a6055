use Rattle.std.proofs.Common.{◌≡◌, pos, ◌*ℤ◌, arith, w64, SFits, to_z, rules}
use Rattle.std.proofs.lemmas.Int.{to_z-of_z, to_z_pos}
use Rattle.sums.specs.Floor.{floor}
use Rattle.sharing.proofs.Ranges.{product_fits, floor_between}
use Rattle.sharing.proofs.rule.rounded_down.Goals as goal

pub overflow_mul-cents : goal.overflow_mul-cents
overflow_mul-cents c =
    let f = c.ranges.cents in
    let e : to_z w64 c.args.part ≡ pos c.args.part = to_z_pos w64 _ (let m = c.requires.ranged.not_too_much in omega arith) in
    rw (to_z-of_z, e) (product_fits c.args.cents c.args.part c.args.total c.requires.ranged c.requires.within)

pub returns : goal.returns
returns c =
    let f = c.ranges.cents in
    let m = c.requires.ranged.not_too_much in
    let p = product_fits c.args.cents c.args.part c.args.total c.requires.ranged c.requires.within in
    let e : to_z w64 c.args.part ≡ pos c.args.part = to_z_pos w64 _ (omega arith) in
    let q : SFits w64 c.floor_of.result = search rules in
    let v : c.floor_of.result ≡ floor (c.args.cents *ℤ pos c.args.part) c.args.total = simp (to_z-of_z, e) at c.floor_of.ensures in
    let b = floor_between c.args.cents c.args.part c.args.total c.requires.ranged c.requires.within in
    record { value = rw to_z-of_z v; low = rw (to_z-of_z, v) b.0; high = rw (to_z-of_z, v) b.1 }
