-- Answers of checks that are made one after another, over any type F of faults.
use Rattle.std.specs.Prelude.{ℕ, zero, suc, ◌+◌, Bool, true, false, List, [], ◌∷◌, Ok, Err, Result}

-- accepted, or refused with a fault
abbrev pub Verdict : Type 0 → Type 0
Verdict F = Result (Unit {0}) F

abbrev pub accept : {F : Type 0} → Verdict F
accept = Ok tt

-- the first of two answers that refuses
infixr 5 ◌then◌
abbrev pub ◌then◌ : {F : Type 0} → Verdict F → Verdict F → Verdict F
Ok u then v = v
Err f then v = Err f

-- unless the test holds, this fault
abbrev pub want : {F : Type 0} → Bool → F → Verdict F
want true f = Ok tt
want false f = Err f

-- the fault of the first of the n numbers from k on that fails the test
abbrev pub every : {F : Type 0} → (ℕ → Bool) → (ℕ → F) → ℕ → ℕ → Verdict F
every ok f k zero = Ok tt
every ok f k (suc n) = want (ok k) (f k) then every ok f (k + 1) n

-- the fault of the first place, counted from k, at which an element fails the test
abbrev pub scan_one : {A F : Type 0} → (A → Bool) → (ℕ → F) → ℕ → List A → Verdict F
scan_one ok f k [] = Ok tt
scan_one ok f k (x ∷ xs) = want (ok x) (f k) then scan_one ok f (k + 1) xs

-- the same of two lists, as far as the shorter goes
abbrev pub scan : {A B F : Type 0} → (A → B → Bool) → (ℕ → F) → ℕ → List A → List B → Verdict F
scan ok f k [] ys = Ok tt
scan ok f k (x ∷ xs) [] = Ok tt
scan ok f k (x ∷ xs) (y ∷ ys) = want (ok x y) (f k) then scan ok f (k + 1) xs ys

-- whether it accepts
abbrev pub accepts : {F : Type 0} → Verdict F → Bool
accepts (Ok u) = true
accepts (Err f) = false

-- the answer of a call that also returns a value
abbrev pub told : {T F : Type 0} → Result T F → Verdict F
told (Ok x) = Ok tt
told (Err f) = Err f
