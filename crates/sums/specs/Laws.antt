-- What the definitions of this crate are for, as statements that contracts name.
use Rattle.std.specs.Prelude.{◌≡◌, ℕ, ◌<◌, Bool, true, false, List, ℤ, pos, ◌+ℤ◌, ◌*ℤ◌, Err}
use Rattle.sums.specs.Sums.{sum_z}
use Rattle.sums.specs.Floor.{floor, remainder}
use Rattle.sums.specs.Verdict.{accept, every}

-- a double sum may be taken in either order
abbrev pub SumsExchange : Type 0 → Type 0 → Type 0
SumsExchange X Y = (f : X → Y → ℤ) (xs : List X) (ys : List Y)
    → sum_z (λ x. sum_z (f x) ys) xs ≡ sum_z (λ y. sum_z (λ x. f x y) xs) ys

-- w quotients and the remainder make the number, and the remainder is below w
abbrev pub FloorDivides : Type 0
FloorDivides = (z : ℤ) (w : ℕ) → 0 < w → (pos w *ℤ floor z w +ℤ pos (remainder z w) ≡ z) × (remainder z w < w)

-- a check of the numbers below n accepts where all of them pass, and tells the first that fails
abbrev pub FirstFailureTold : Type 0 → Type 0
FirstFailureTold F = (ok : ℕ → Bool) (f : ℕ → F) (n : ℕ)
    → (((k : ℕ) → k < n → ok k ≡ true) → every ok f 0 n ≡ accept)
    × ((i : ℕ) → i < n → ((k : ℕ) → k < i → ok k ≡ true) → ok i ≡ false → every ok f 0 n ≡ Err (f i))
