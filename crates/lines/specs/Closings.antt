-- The lines of a closing.
use Rattle.std.specs.Prelude.{ℕ, List, [], ◌∷◌, ◌++◌, ℤ, ◌-ℤ◌}
use Rattle.std.specs.List.{flat_map}
use Rattle.sums.specs.Sums.{each}
use Rattle.accounts.specs.declared.supplier.Supplier.{Supplier}
use Rattle.accounts.specs.declared.customer.Customer.{Customer}
use Rattle.lines.specs.declared.line.Line.{Line}
use Rattle.lines.specs.declared.line.Line.TheVariants.{Paid, Charged, Carried}
use Rattle.lines.specs.Texts.{amount_text}

-- a line for each supplier, then for each customer, in the order of the books: what its cents have grown by since
-- they were `paid` and `charged`; then the carry
abbrev pub closing_lines : (hour : ℕ) (paid : List ℤ) → List Supplier → (charged : List ℤ) → List Customer → (carry : ℤ) → List Line
closing_lines hour paid suppliers charged customers carry =
    each (λ old a. Paid hour a.number (a.cents -ℤ old)) paid suppliers
    ++ (each (λ old a. Charged hour a.number (a.cents -ℤ old)) charged customers ++ (Carried hour carry ∷ []))

-- the same of accounts of either kind, as bytes
abbrev pub account_texts : {A : Type 0} → (A → ℕ) → (A → ℤ) → (letter hour : ℕ) → List ℤ → List A → List ℕ
account_texts number money letter hour before accounts =
    flat_map (λ t. t) (each (λ old a. amount_text letter hour (number a) (money a -ℤ old)) before accounts)
