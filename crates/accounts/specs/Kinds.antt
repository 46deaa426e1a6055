-- Kinds of suppliers by number.
use Rattle.std.specs.Prelude.{◌≡◌, ◌≢◌, ℕ, Result, MatchResult}
use Rattle.accounts.specs.declared.supplier.Kind.{Kind}
use Rattle.accounts.specs.declared.supplier.Kind.TheVariants.{Synchronized, NotSynchronized}
use Rattle.accounts.specs.declared.supplier.UnknownKind.{UnknownKind}

-- the number that stands for a kind
abbrev pub kind_number : Kind → ℕ
kind_number Synchronized = 1
kind_number NotSynchronized = 2

-- the kind that the number stands for, or an error with a number that stands for none
abbrev pub IsKindNumbered : ℕ → Result Kind (UnknownKind ℕ) → Type 0
IsKindNumbered n r = MatchResult r (λ kind. kind_number kind ≡ n) (λ e. (e.0 ≡ n) × ((kind : Kind) → kind_number kind ≢ n))
