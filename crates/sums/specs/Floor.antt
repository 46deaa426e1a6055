-- Division that rounds toward minus infinity.
use Rattle.std.specs.Prelude.{ℕ, ◌-◌, ◌/◌, ◌%◌, ℤ, pos, negsuc}

-- the quotient by w; `negsuc n` is -(n + 1)
abbrev pub floor : ℤ → ℕ → ℤ
floor (pos n) w = pos (n / w)
floor (negsuc n) w = negsuc (n / w)

-- what remains, 0 to w - 1
abbrev pub remainder : ℤ → ℕ → ℕ
remainder (pos n) w = n % w
remainder (negsuc n) w = w - 1 - n % w
