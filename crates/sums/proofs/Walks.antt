-- Checks of the elements of two lists in order, as far as the shorter list goes.
use Rattle.std.proofs.Common.{◌≡◌, ℕ, ◌+◌, Bool, List, [], ◌∷◌, refl, ap, ◌∙◌}
use Rattle.sums.specs.Verdict.{Verdict, want, ◌then◌, scan}

-- two tests that agree make the same check
module _ {A B F : Type 0} (ok ok' : A → B → Bool) (f : ℕ → F) (same : (x : A) (y : B) → ok x y ≡ ok' x y) where
  pub scan_same : (k : ℕ) (xs : List A) (ys : List B) → scan ok f k xs ys ≡ scan ok' f k xs ys
  scan_same k [] ys = refl
  scan_same k (x ∷ xs) [] = refl
  scan_same k (x ∷ xs) (y ∷ ys) =
      ap (λ (b : Bool). want b (f k) then scan ok f (k + 1) xs ys) (same x y)
      ∙ ap (λ (v : Verdict F). want (ok' x y) (f k) then v) (scan_same (k + 1) xs ys)
