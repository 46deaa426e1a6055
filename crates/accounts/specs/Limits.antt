-- How many accounts of each kind a book takes.
use Rattle.std.specs.Prelude.{ℕ}

abbrev pub most_suppliers : ℕ
most_suppliers = 128

abbrev pub most_customers : ℕ
most_customers = 256
