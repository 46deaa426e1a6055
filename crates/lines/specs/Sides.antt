-- The letters of amounts.
use Rattle.std.specs.Prelude.{ℕ}
use Rattle.lines.specs.declared.line.Side.{Side}
use Rattle.lines.specs.declared.line.Side.TheVariants.{Paid, Charged}

-- P for what is paid, C for what is charged
abbrev pub side_letter : Side → ℕ
side_letter Paid = 80
side_letter Charged = 67
