use Rattle.std.proofs.Common.{◌-ℤ◌, ap, arith, w64, SFits}
use Rattle.std.proofs.lemmas.Int.{to_z-of_z}
use Rattle.lines.specs.Texts.{amount_text}
use Rattle.lines.proofs.Puts.{grown_before, grown_same, decimal_in_32}
use Rattle.lines.proofs.tail.Tail.amount.Goals as goal

pub field-requires : goal.field-requires
field-requires c =
    let number = decimal_in_32 c.args.number (omega arith) in
    omega (arith, c.byte.ensures.put.place, c.difference.ensures.short)

pub field-requires-2 : goal.field-requires-2
field-requires-2 c =
    let number = decimal_in_32 c.args.number (omega arith) in
    let hour = decimal_in_32 c.args.hour (omega arith) in
    omega (arith, c.byte.ensures.put.place, c.difference.ensures.short, c.field.ensures.put.place)

pub byte-requires-2 : goal.byte-requires-2
byte-requires-2 c =
    let number = decimal_in_32 c.args.number (omega arith) in
    let hour = decimal_in_32 c.args.hour (omega arith) in
    omega (arith, c.byte.ensures.put.place, c.difference.ensures.short, c.field.ensures.put.place, c.field-2.ensures.put.place)

pub returns-clause-grown : goal.returns-clause-grown
returns-clause-grown c =
    let before : SFits w64 c.args.before = c.ranges.before in
    let after : SFits w64 c.args.after = c.ranges.after in
    let difference = simp to_z-of_z at c.difference.ensures.grown in
    grown_same _ _ _ _ (ap (λ k. amount_text k c.args.hour c.args.number (c.args.after -ℤ c.args.before)) c.letter.ensures)
    (grown_before _ _ _ _ _ (grown_before _ _ _ _ _ (grown_before _ _ _ _ _ (grown_before _ _ _ _ _ c.byte.ensures difference) c.field.ensures) c.field-2.ensures) c.byte-2.ensures)

pub returns-clause-short : goal.returns-clause-short
returns-clause-short c =
    let number = decimal_in_32 c.args.number (omega arith) in
    let hour = decimal_in_32 c.args.hour (omega arith) in
    omega (arith, c.byte.ensures.put.place, c.difference.ensures.short, c.field.ensures.put.place, c.field-2.ensures.put.place, c.byte-2.ensures.put.place)
