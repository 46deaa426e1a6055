-- The bytes of a line. Numbers are decimal, with a `-` where they are negative.
use Rattle.std.specs.Prelude.{ℕ, List, [], ◌∷◌, ◌++◌, ℤ, decimal}
use Rattle.std.specs.Fmt.{signed_decimal}
use Rattle.std.specs.List.{flat_map}
use Rattle.lines.specs.declared.line.Line.{Line}
use Rattle.lines.specs.declared.line.Line.TheVariants.{Paid, Charged, Carried, Refused}

-- the line's end
abbrev pub ends : List ℕ
ends = 10 ∷ []

-- a number after a blank
abbrev pub field : ℕ → List ℕ
field n = 32 ∷ decimal n

abbrev pub signed_field : ℤ → List ℕ
signed_field z = 32 ∷ signed_decimal z

-- a letter, an hour, an account's number and an amount
abbrev pub amount_text : (letter hour number : ℕ) → ℤ → List ℕ
amount_text letter hour number amount = letter ∷ (field hour ++ (field number ++ (signed_field amount ++ ends)))

-- the letters are P, C, K and R
abbrev pub text : Line → List ℕ
text (Paid hour supplier cents) = amount_text 80 hour supplier cents
text (Charged hour customer cents) = amount_text 67 hour customer cents
text (Carried hour carry) = 75 ∷ (field hour ++ (signed_field carry ++ ends))
text (Refused number offset) = 82 ∷ (field number ++ (field offset ++ ends))

-- line after line
abbrev pub texts : List Line → List ℕ
texts lines = flat_map text lines

-- ---- how long the parts and a line can be

-- a difference of two numbers of 64 bits, after a blank
abbrev pub most_amount : ℕ
most_amount = 22

-- a letter, two numbers of 32 bits after blanks, such a difference, and the line's end
abbrev pub most_line : ℕ
most_line = 46
