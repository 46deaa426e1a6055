-- A check that tells the first place found is the check of every element in order.
use Rattle.std.proofs.Common.{◌≡◌, ℕ, ◌+◌, Bool, true, false, not, cond, List, [], ◌∷◌, Some, None, Option, Err, sym, refl, ap, ◌∙◌}
use Rattle.std.specs.Option.{MatchOption}
use Rattle.std.specs.List.{position, position_from, zip}
use Rattle.std.proofs.lemmas.Iterator.Adapters.{position_from-zero}
use Rattle.sums.specs.Verdict.{Verdict, accept, want, ◌then◌, scan, scan_one}

module _ {F : Type 0} (f : ℕ → F) where
  -- the place that was found is told
  abbrev pub told_at : Option ℕ → Verdict F
  told_at None = accept
  told_at (Some i) = Err (f i)

  turn : (b : Bool) (k : ℕ) (v : Verdict F) (r : Option ℕ) → v ≡ told_at r → (want b (f k) then v) ≡ told_at (cond (not b) (Some k) r)
  turn true k v r e = e
  turn false k v r e = refl

  answered : {P : ℕ → Type 0} (r : Option ℕ) (v : Verdict F) → MatchOption r (v ≡ accept) P → ((i : ℕ) → P i → v ≡ Err (f i)) → v ≡ told_at r
  answered None v h told = h
  answered (Some i) v h told = told i h

module _ {A F : Type 0} (ok : A → Bool) (f : ℕ → F) where
  one_from : (k : ℕ) (xs : List A) → scan_one ok f k xs ≡ told_at f (position_from (λ x. not (ok x)) k xs)
  one_from k [] = refl
  one_from k (x ∷ xs) = turn f (ok x) k (scan_one ok f (k + 1) xs) (position_from (λ y. not (ok y)) (k + 1) xs) (one_from (k + 1) xs)

  pub first_one : (xs : List A) {P : ℕ → Type 0} (r : Option ℕ) (v : Verdict F) → MatchOption r (v ≡ accept) P → ((i : ℕ) → P i → v ≡ Err (f i))
      → r ≡ position (λ x. not (ok x)) xs → v ≡ scan_one ok f 0 xs
  first_one xs r v h told e = answered f r v h told ∙ ap (told_at f) (e ∙ position_from-zero (λ x. not (ok x)) xs) ∙ sym (one_from 0 xs)

abbrev pub pairwise : {A B : Type 0} → (A → B → Bool) → A × B → Bool
pairwise ok p = ok p.0 p.1

module _ {A B F : Type 0} (ok : A → B → Bool) (f : ℕ → F) where
  by_pairs : (k : ℕ) (xs : List A) (ys : List B) → scan_one (pairwise ok) f k (zip xs ys) ≡ scan ok f k xs ys
  by_pairs k [] ys = refl
  by_pairs k (x ∷ xs) [] = refl
  by_pairs k (x ∷ xs) (y ∷ ys) = ap (λ (v : Verdict F). want (ok x y) (f k) then v) (by_pairs (k + 1) xs ys)

  pub first_pair : (xs : List A) (ys : List B) {P : ℕ → Type 0} (r : Option ℕ) (v : Verdict F) → MatchOption r (v ≡ accept) P → ((i : ℕ) → P i → v ≡ Err (f i))
      → r ≡ position (λ p. not (ok p.0 p.1)) (zip xs ys) → v ≡ scan ok f 0 xs ys
  first_pair xs ys r v h told e = first_one (pairwise ok) f (zip xs ys) r v h told e ∙ by_pairs 0 xs ys
