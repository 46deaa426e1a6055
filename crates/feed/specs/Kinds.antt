-- The kinds of record, the sizes that each may have, and how long it then is.
use Rattle.std.specs.Prelude.{◌≡◌, ℕ, ◌+◌, ◌*◌, Bool, cond, ◌&&◌, Some, None, Option, Result, MatchResult, ◌==◌, nat_le}
use Rattle.feed.specs.declared.kind.Kind.{Kind}
use Rattle.accounts.specs.declared.supplier.UnknownKind.{UnknownKind}
use Rattle.feed.specs.declared.kind.Kind.TheVariants.{Supplier, Customer, Open, Clear, Interval, Close, Void}

abbrev pub code_of : Kind → ℕ
code_of Supplier = 1
code_of Customer = 2
code_of Open = 3
code_of Clear = 4
code_of Interval = 5
code_of Close = 6
code_of Void = 7

abbrev pub kind_of_lem : ℕ → Option Kind
kind_of_lem b =
    cond (b == 1) (Some Supplier)
    (cond (b == 2) (Some Customer)
    (cond (b == 3) (Some Open)
    (cond (b == 4) (Some Clear)
    (cond (b == 5) (Some Interval)
    (cond (b == 6) (Some Close)
    (cond (b == 7) (Some Void) None))))))

-- the kind that a byte stands for, or that byte where it stands for none
abbrev pub IsKindOf : ℕ → Result Kind (UnknownKind ℕ) → Type 0
IsKindOf b r = MatchResult r (λ k. kind_of_lem b ≡ Some k) (λ e. (kind_of_lem b ≡ None) × (e.0 ≡ b))

-- the most requirements, suppliers and customers that a record speaks of
abbrev pub most_prices : ℕ
most_prices = 32

abbrev pub most_schedules : ℕ
most_schedules = 128

abbrev pub most_withdrawals : ℕ
most_withdrawals = 256

-- no list: both sizes are 0
abbrev pub no_lists : ℕ → ℕ → Bool
no_lists n m = n == 0 && m == 0

-- n prices and targets and m schedule rows
abbrev pub sheet_sizes : ℕ → ℕ → Bool
sheet_sizes n m = nat_le 1 n && (nat_le n most_prices && nat_le m most_schedules)

-- whether a record of the kind may have the sizes n and m
abbrev pub allowed : Kind → ℕ → ℕ → Bool
allowed Supplier n m = no_lists n m
allowed Customer n m = no_lists n m
allowed Open n m = no_lists n m
allowed Clear n m = sheet_sizes n m
allowed Interval n m = sheet_sizes n m
allowed Close n m = n == 0 && nat_le m most_withdrawals
allowed Void n m = no_lists n m

-- how many bytes follow the header
abbrev pub body_length_lem : Kind → ℕ → ℕ → ℕ
body_length_lem Supplier n m = 16
body_length_lem Customer n m = 4
body_length_lem Open n m = 4
body_length_lem Clear n m = 8 * n + 24 * m
body_length_lem Interval n m = 4 + 8 * n + 24 * m
body_length_lem Close n m = 16 * m
body_length_lem Void n m = 0

-- the same, or none where the sizes are not allowed
abbrev pub allowed_length : Kind → ℕ → ℕ → Option ℕ
allowed_length k n m = cond (allowed k n m) (Some (body_length_lem k n m)) None
