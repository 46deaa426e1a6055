use Rattle.std.proofs.Common.{arith}
use Rattle.lines.proofs.Puts.{grown_before, decimal_in_16, decimal_in_64}
use Rattle.lines.proofs.tail.Tail.refusal.Goals as goal

pub field-requires : goal.field-requires
field-requires c =
    let offset = decimal_in_64 c.args.offset (omega arith) in
    omega (arith, c.byte.ensures.put.place)

pub field-requires-2 : goal.field-requires-2
field-requires-2 c =
    let offset = decimal_in_64 c.args.offset (omega arith) in
    let number = decimal_in_16 c.args.number (omega arith) in
    omega (arith, c.byte.ensures.put.place, c.field.ensures.put.place)

pub byte-requires-2 : goal.byte-requires-2
byte-requires-2 c =
    let offset = decimal_in_64 c.args.offset (omega arith) in
    let number = decimal_in_16 c.args.number (omega arith) in
    omega (arith, c.byte.ensures.put.place, c.field.ensures.put.place, c.field-2.ensures.put.place)

pub returns-clause-grown : goal.returns-clause-grown
returns-clause-grown c =
    grown_before _ _ _ _ _ (grown_before _ _ _ _ _ (grown_before _ _ _ _ _ c.byte.ensures c.field.ensures) c.field-2.ensures) c.byte-2.ensures

pub returns-clause-short : goal.returns-clause-short
returns-clause-short c =
    let offset = decimal_in_64 c.args.offset (omega arith) in
    let number = decimal_in_16 c.args.number (omega arith) in
    omega (arith, c.byte.ensures.put.place, c.field.ensures.put.place, c.field-2.ensures.put.place, c.byte-2.ensures.put.place)
