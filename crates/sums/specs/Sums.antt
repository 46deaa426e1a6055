-- Sums. Sums of natural numbers over a list are the library's `sum_by`.
use Rattle.std.specs.Prelude.{ℕ, zero, suc, Bool, cond, List, [], ◌∷◌, ℤ, pos, ◌+ℤ◌}

-- the numbers below n
abbrev pub upto : ℕ → List ℕ
upto zero = []
upto (suc n) = n ∷ upto n

-- the sum of f over a list
abbrev pub sum_z : {X : Type 0} → (X → ℤ) → List X → ℤ
sum_z f [] = pos 0
sum_z f (x ∷ xs) = f x +ℤ sum_z f xs

-- n, or z, where the test holds, else 0
abbrev pub when : Bool → ℕ → ℕ
when b n = cond b n 0

abbrev pub when_z : Bool → ℤ → ℤ
when_z b z = cond b z (pos 0)

-- two lists joined place by place by f, as far as the shorter goes
abbrev pub each : {A B C : Type 0} → (A → B → C) → List A → List B → List C
each f [] ys = []
each f (x ∷ xs) [] = []
each f (x ∷ xs) (y ∷ ys) = f x y ∷ each f xs ys
