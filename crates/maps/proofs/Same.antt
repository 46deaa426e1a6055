-- The tree of the fixed map replies as the fixed map: a computed table inside the counts, and no outside.
use Rattle.std.proofs.Common.{◌≡◌, ℕ, ◌<◌, Bool, true, false, sym, refl, ◌∙◌, inl, inr, arith, rules}
use Rattle.std.proofs.lemmas.Bool.{cases_lt}
use Rattle.sums.specs.Verdict.{accept, accepts, every}
use Rattle.sums.proofs.Verdicts.{every_held, accepted}
use Rattle.maps.specs.Trees.{loaded_lawful}
use Rattle.maps.specs.declared.product.Product.{Product}
use Rattle.maps.specs.declared.product.Product.TheVariants.{ThirtyMinute, TenMinute, Spinning}
use Rattle.maps.specs.Fixed.{fixed_counts}
use Rattle.maps.specs.Tree.{loaded_counts, fixed_parents, fixed_masks, TreeRepliesAsFixed}

abbrev tree_counts : ℕ → Product → ℕ → Bool
tree_counts = loaded_counts 5 fixed_parents fixed_masks

alike : Bool → Bool → Bool
alike true b = b
alike false true = false
alike false false = true

alike_is : (a b : Bool) → alike a b ≡ true → a ≡ b
unfolding alike
alike_is true true t = refl
alike_is true false t = sym t
alike_is false true t = t
alike_is false false t = refl

cell : Product → ℕ → ℕ → Bool
cell p k l = alike (tree_counts k p l) (fixed_counts k p l)

row : Product → ℕ → Bool
row p k = accepts (every (cell p k) (λ l. l) 0 5)

table : (p : Product) → every (row p) (λ k. k) 0 15 ≡ accept
unfolding row cell alike
table ThirtyMinute = refl
table TenMinute = refl
table Spinning = refl

inside : (k : ℕ) (p : Product) (l : ℕ) → k < 15 → l < 5 → tree_counts k p l ≡ fixed_counts k p l
unfolding row cell
inside k p l hk hl =
    let r : row p k ≡ true = every_held (row p) (λ k. k) 0 15 (table p) k (omega arith) (omega arith) in
    alike_is _ _ (every_held (cell p k) (λ l. l) 0 5 (accepted _ r) l (omega arith) (omega arith))

fixed_within : (k : ℕ) (p : Product) (l : ℕ) → fixed_counts k p l ≡ true → (k < 15) × (l < 5)
fixed_within k ThirtyMinute l t = search rules
fixed_within k TenMinute l t = search rules
fixed_within k Spinning l t = search rules

tree_within : (k : ℕ) (p : Product) (l : ℕ) → tree_counts k p l ≡ true → (k < 15) × (l < 5)
tree_within = (loaded_lawful 5 fixed_parents fixed_masks (omega arith) (omega arith) (omega arith)).within

no_of : (b : Bool) → (b ≡ true → ⊥) → b ≡ false
no_of true h = absurd (h refl)
no_of false h = refl

outside : (k : ℕ) (p : Product) (l : ℕ) → ((k < 15) × (l < 5) → ⊥) → tree_counts k p l ≡ fixed_counts k p l
outside k p l h = no_of _ (λ t. h (tree_within k p l t)) ∙ sym (no_of _ (λ t. h (fixed_within k p l t)))

same_counts : (k : ℕ) (p : Product) (l : ℕ) → tree_counts k p l ≡ fixed_counts k p l
same_counts k p l = elim (cases_lt k 15) [
  | inl hk ↦ elim (cases_lt l 5) [ inl hl ↦ inside k p l hk hl | inr gl ↦ outside k p l (λ h. omega (arith, h.1)) ]
  | inr gk ↦ outside k p l (λ h. omega (arith, h.0))
]

pub tree_replies_as_fixed_lem : TreeRepliesAsFixed
tree_replies_as_fixed_lem = record { requirements = refl; locations = refl; counts = same_counts }
