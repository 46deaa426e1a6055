use Rattle.std.proofs.Common.{◌∷◌, ◌++◌, ap, arith, w64, SFits}
use Rattle.std.proofs.lemmas.Int.{to_z-of_z}
use Rattle.lines.specs.Texts.{field, signed_field, ends}
use Rattle.lines.proofs.Puts.{grown_before, grown_same, decimal_in_32, less_none}
use Rattle.lines.proofs.tail.Tail.carry.Goals as goal

pub field-requires : goal.field-requires
field-requires c =
    let hour = decimal_in_32 c.args.hour (omega arith) in
    omega (arith, c.byte.ensures.put.place, c.difference.ensures.short)

pub byte-requires-2 : goal.byte-requires-2
byte-requires-2 c =
    let hour = decimal_in_32 c.args.hour (omega arith) in
    omega (arith, c.byte.ensures.put.place, c.difference.ensures.short, c.field.ensures.put.place)

pub returns-clause-grown : goal.returns-clause-grown
returns-clause-grown c =
    let fits : SFits w64 c.args.carry = c.ranges.carry in
    let difference = simp to_z-of_z at c.difference.ensures.grown in
    grown_same _ _ _ _ (ap (λ z. 75 ∷ (field c.args.hour ++ (signed_field z ++ ends))) (less_none c.args.carry))
    (grown_before _ _ _ _ _ (grown_before _ _ _ _ _ (grown_before _ _ _ _ _ c.byte.ensures difference) c.field.ensures) c.byte-2.ensures)

pub returns-clause-short : goal.returns-clause-short
returns-clause-short c =
    let hour = decimal_in_32 c.args.hour (omega arith) in
    omega (arith, c.byte.ensures.put.place, c.difference.ensures.short, c.field.ensures.put.place, c.byte-2.ensures.put.place)
