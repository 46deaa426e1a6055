use Rattle.std.proofs.Common.{◌≡◌, ◌-ℤ◌, nat_abs, ◌≤ℤ◌, ◌<ℤ◌, sym, arith, rules}
use Rattle.std.specs.Fmt.{signed_decimal}
use Rattle.lines.specs.Tails.{Grown}
use Rattle.lines.proofs.Puts.{grown_before, grown_same, grown_to, difference_below, difference_from, decimal_in_64}
use Rattle.lines.proofs.tail.Tail.difference.Goals as goal
use Rattle.lines.proofs.tail.Tail.difference.Goals.{then-after-before, else-after-before}

pub decimal-requires : goal.decimal-requires
decimal-requires c = let length = decimal_in_64 c.abs_diff.result (omega arith) in omega arith

pub byte-requires : goal.byte-requires
byte-requires c =
    let length = decimal_in_64 c.abs_diff.result (omega arith) in
    omega (arith, c.decimal.ensures.put.place)

pub byte-requires-2 : goal.byte-requires-2
byte-requires-2 c =
    let length = decimal_in_64 c.abs_diff.result (omega arith) in
    elim c.if-after-before.branch [
      | then-after-before w ↦
          let same : c.if-after-before.self ≡ w.byte.new.self = cc in
          rw same (omega (arith, c.decimal.ensures.put.place, w.byte.ensures.put.place))
      | else-after-before w ↦
          let same : c.if-after-before.self ≡ c.decimal.new.self = cc in
          rw same (omega (arith, c.decimal.ensures.put.place))
    ]

pub returns-clause-grown : goal.returns-clause-grown
returns-clause-grown c =
    let size : c.abs_diff.result ≡ nat_abs (c.args.after -ℤ c.args.before) = search rules in
    let signed : Grown (signed_decimal (c.args.after -ℤ c.args.before)) c.args.self.now c.if-after-before.self =
    elim c.if-after-before.branch [
      | then-after-before w ↦
          let less : c.args.after <ℤ c.args.before = search rules in
          let same : w.byte.new.self ≡ c.if-after-before.self = cc in
          grown_to _ _ _ _ same (grown_same _ _ _ _ (sym (difference_below c.args.after c.args.before c.abs_diff.result size less))
          (grown_before _ _ _ _ _ c.decimal.ensures w.byte.ensures))
      | else-after-before w ↦
          let more : c.args.before ≤ℤ c.args.after = search rules in
          let same : c.decimal.new.self ≡ c.if-after-before.self = cc in
          grown_to _ _ _ _ same (grown_same _ _ _ _ (sym (difference_from c.args.after c.args.before c.abs_diff.result size more)) c.decimal.ensures)
    ] in
    grown_before _ _ _ _ _ signed c.byte-2.ensures

pub returns-clause-short : goal.returns-clause-short
returns-clause-short c =
    let length = decimal_in_64 c.abs_diff.result (omega arith) in
    let last = c.byte-2.ensures.put.place in
    elim c.if-after-before.branch [
      | then-after-before w ↦
          let same : c.if-after-before.self ≡ w.byte.new.self = cc in
          let place = rw same at last in
          omega (arith, c.decimal.ensures.put.place, w.byte.ensures.put.place)
      | else-after-before w ↦
          let same : c.if-after-before.self ≡ c.decimal.new.self = cc in
          let place = rw same at last in
          omega (arith, c.decimal.ensures.put.place)
    ]
