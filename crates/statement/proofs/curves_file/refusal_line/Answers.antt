use Rattle.std.proofs.Common.{◌≡◌, ℕ, ◌^◌, ◌<◌, ◌≤◌, ◌∷◌, ◌++◌, length, Ok, Err, decimal, Result, sym, refl, ◌∙◌, arith, length-append}
use Rattle.faults.specs.declared.fault.Fault.{Fault}
use Rattle.lines.specs.Texts.{text, ends}
use Rattle.lines.specs.declared.line.Line.TheVariants.{Refused}
use Rattle.lines.proofs.Puts.{decimal_in_16, write_fits}
use Rattle.statement.proofs.curves_file.refusal_line.Goals as goal

-- the line is no longer than its room
fits : (n : ℕ) → n < 2 ^ 16 → length (text (Refused n 0)) ≤ 64
fits n h =
    let number = decimal_in_16 n h in
    let offset = decimal_in_16 0 (omega arith) in
    let first = length-append (decimal n) (32 ∷ (decimal 0 ++ ends)) in
    let second = length-append (decimal 0) ends in
    omega arith

-- no answer is both a refusal and a length
both : (answer : Result ℕ Fault) {f : Fault} {n : ℕ} → Err f ≡ answer → Ok n ≡ answer → ⊥
both answer {f} {n} refused told =
    let same : Err f ≡ Ok n = refused ∙ sym told in
    let z : ◌≡◌ {A = ℕ} 0 1 = cc in
    absurd (omega arith)

pub unreachable-requires : goal.unreachable-requires
unreachable-requires c =
    let short : length (text (Refused c.number.result 0)) ≤ length c.args.room.now = let h = fits c.number.result (omega arith) in omega arith in
    let room = write_fits _ (length (text (Refused c.number.result 0))) (length c.args.room.now) refl short in
    both _ c.in-Err.ensures.reply room
