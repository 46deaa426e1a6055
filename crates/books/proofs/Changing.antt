-- The turns of a loop that changes accounts, by their rows or without.
use Rattle.std.proofs.Common.{◌≡◌, ℕ, zero, suc, ◌+◌, ◌<◌, ◌≤◌, min, List, [], ◌∷◌, ◌++◌, map, length, get_or, take, drop, set, sym, refl, ap, ◌∙◌, le_of_suc-le-suc, not-suc-le-zero, add-one, arith}
use Rattle.std.proofs.lemmas.List.Edits.{map_over_more}
use Rattle.std.proofs.lemmas.List.{take_all}
use Rattle.books.specs.Changes.{change_each}

module _ {X Y : Type 0} (f : X → Y → X) where
  pub changed_none : (xs : List X) → change_each f xs [] ≡ xs
  changed_none [] = refl
  changed_none (x ∷ xs) = refl

  -- what stands at i is not changed yet
  pub changed_read : (xs : List X) (ys : List Y) (i : ℕ) (d : X) → i < length xs → get_or (change_each f xs (take i ys)) i d ≡ get_or xs i d
  changed_read [] ys i d h = absurd (not-suc-le-zero h)
  changed_read (x ∷ xs) [] zero d h = refl
  changed_read (x ∷ xs) [] (suc i) d h = refl
  changed_read (x ∷ xs) (y ∷ ys) zero d h = refl
  changed_read (x ∷ xs) (y ∷ ys) (suc i) d h = changed_read xs ys i d (le_of_suc-le-suc h)

  more : (xs : List X) (ys : List Y) (i : ℕ) (d : X) (e : Y) → i < length xs → i < length ys
      → set (change_each f xs (take i ys)) i (f (get_or xs i d) (get_or ys i e)) ≡ change_each f xs (take (suc i) ys)
  more [] ys i d e h k = absurd (not-suc-le-zero h)
  more (x ∷ xs) [] i d e h k = absurd (not-suc-le-zero k)
  more (x ∷ xs) (y ∷ ys) zero d e h k = ap (λ (zs : List X). f x y ∷ zs) (sym (changed_none xs))
  more (x ∷ xs) (y ∷ ys) (suc i) d e h k = ap (λ (zs : List X). f x y ∷ zs) (more xs ys i d e (le_of_suc-le-suc h) (le_of_suc-le-suc k))

  -- one account more, where zs is what the table holds
  pub changed_more : (xs zs : List X) (ys : List Y) (i : ℕ) (d : X) (y : Y) (z : X) → i < length xs → i < length ys
      → zs ≡ change_each f xs (take i ys) → y ≡ get_or ys i y → z ≡ f (get_or zs i d) y → set zs i z ≡ change_each f xs (take (i + 1) ys)
  changed_more xs zs ys i d y z h k inv e q =
      let r : get_or zs i d ≡ get_or xs i d = ap (λ (l : List X). get_or l i d) inv ∙ changed_read xs ys i d h in
      ap (λ (l : List X). set l i z) inv
      ∙ ap (set (change_each f xs (take i ys)) i) (q ∙ ap (λ (w : X). f w y) r ∙ ap (f (get_or xs i d)) e)
      ∙ more xs ys i d y h k
      ∙ ap (λ (n : ℕ). change_each f xs (take n ys)) (sym (add-one i))

  -- past the shorter list there is nothing left to change
  pub changed_all : (xs : List X) (ys : List Y) (i : ℕ) → min (length xs) (length ys) ≤ i → change_each f xs (take i ys) ≡ change_each f xs ys
  changed_all [] ys i h = refl
  changed_all (x ∷ xs) [] zero h = refl
  changed_all (x ∷ xs) [] (suc i) h = refl
  changed_all (x ∷ xs) (y ∷ ys) zero h = absurd (omega arith)
  changed_all (x ∷ xs) (y ∷ ys) (suc i) h = ap (λ (zs : List X). f x y ∷ zs) (changed_all xs ys i (omega arith))

  -- past the rows a turn changes nothing
  pub changed_past : (xs : List X) (ys : List Y) (i : ℕ) → length ys ≤ i → change_each f xs (take i ys) ≡ change_each f xs (take (i + 1) ys)
  changed_past xs ys i h = rw (take_all i ys h, take_all (i + 1) ys (omega arith))

-- ---- without rows
pub mapped_more : {X : Type 0} (f : X → X) (xs zs : List X) (i : ℕ) (x z : X) → i < length xs
    → zs ≡ map f (take i xs) ++ drop i xs → x ≡ get_or zs i x → z ≡ f (get_or zs i x) → set zs i z ≡ map f (take (i + 1) xs) ++ drop (i + 1) xs
mapped_more f xs zs i x z h inv d q = ap (set zs i) (q ∙ ap f (sym d)) ∙ map_over_more f xs zs i x h inv d
