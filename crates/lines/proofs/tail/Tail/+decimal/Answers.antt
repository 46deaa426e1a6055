use Rattle.std.proofs.Common.{◌≡◌, ◌+◌, ◌%◌, [], ◌∷◌, sym, ap, ◌∙◌, arith}
use Rattle.std.proofs.lemmas.Fmt.{decimal_digit, decimal_step, decimal_nonempty}
use Rattle.lines.proofs.Puts.{grown_before, grown_same, length_step}
use Rattle.lines.proofs.tail.Tail.+decimal.Goals as goal

pub byte-requires : goal.byte-requires
byte-requires t c = let some = decimal_nonempty c.args.n (omega arith) in omega arith

pub decimal-requires : goal.decimal-requires
decimal-requires t c =
    let l = length_step c.args.n (omega arith) (omega arith) in
    let p = c.byte.ensures.put.place in
    (omega arith, omega arith)

pub returns-then-n-ge10 : goal.returns-then-n-ge10
returns-then-n-ge10 t c =
    grown_same _ _ _ _ (sym (decimal_step c.args.n (omega arith) (omega arith)))
    (grown_before _ _ _ _ _ c.byte.ensures c.decimal.ensures)

pub returns-else-n-ge10 : goal.returns-else-n-ge10
returns-else-n-ge10 t c =
    let same : c.args.n % 10 ≡ c.args.n = omega arith in
    grown_same _ _ _ _ (ap (λ d. (48 + d) ∷ []) same ∙ sym (decimal_digit c.args.n (omega arith))) c.byte.ensures
