-- Numbers in bytes, lowest byte first. Past the last byte stands 0.
use Rattle.std.specs.Prelude.{ℕ, ◌+◌, ◌*◌, List, map, slice_index}
use Rattle.std.specs.List.{range_with_len}

-- the number in the two bytes from i on
abbrev pub le16 : List ℕ → ℕ → ℕ
le16 bs i = slice_index bs i + slice_index bs (i + 1) * 256

-- the number in the four bytes from i on
abbrev pub le32 : List ℕ → ℕ → ℕ
le32 bs i = slice_index bs i + slice_index bs (i + 1) * 256 + slice_index bs (i + 2) * 65536 + slice_index bs (i + 3) * 16777216

-- number i of a list of numbers of four bytes each
abbrev pub number_in : List ℕ → ℕ → ℕ
number_in bs i = le32 bs (4 * i)

-- the first n of them
abbrev pub numbers_in : List ℕ → ℕ → List ℕ
numbers_in bs n = map (number_in bs) (range_with_len 0 n)
