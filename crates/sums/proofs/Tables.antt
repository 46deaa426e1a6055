-- A loop that writes f k at each place k of a table.
use Rattle.std.proofs.Common.{◌≡◌, ℕ, zero, suc, ◌+◌, ◌<◌, ◌≤◌, List, length, get_or, set, replicate, refl, ◌∙◌, inl, inr, arith}
use Rattle.std.proofs.lemmas.List.Edits.{fill_by_more}
use Rattle.std.proofs.lemmas.List.{get_or_past}
use Rattle.std.proofs.lemmas.Bool.{cases_lt}

module _ {X : Type 0} (f : ℕ → X) (d : X) where
  pub table_more : (xs : List X) (i : ℕ) (v : X) → i < length xs → v ≡ f i → ((k : ℕ) → k < i → get_or xs k d ≡ f k)
      → (k : ℕ) → k < i + 1 → get_or (set xs i v) k d ≡ f k
  table_more xs i v h e g k l = rw e (fill_by_more f xs i d h g k l)

  -- the table as a whole, where f gives the default past its end
  pub table_all : (xs : List X) (n : ℕ) → length xs ≡ n → ((k : ℕ) → k < n → get_or xs k d ≡ f k) → ((k : ℕ) → n ≤ k → d ≡ f k) → (k : ℕ) → get_or xs k d ≡ f k
  table_all xs n e low past k = elim (cases_lt k n) [
    | inl l ↦ low k l
    | inr g ↦ get_or_past xs k d (omega arith) ∙ past k g
  ]

pub same_all : {X : Type 0} (n k : ℕ) (x : X) → get_or (replicate n x) k x ≡ x
same_all zero k x = refl
same_all (suc n) zero x = refl
same_all (suc n) (suc k) x = same_all n k x
