-- Laws of sums over lists, signed and unsigned.
use Rattle.std.proofs.Common.{◌≡◌, ℕ, zero, suc, ◌+◌, ◌*◌, ◌≤◌, Bool, true, false, List, [], ◌∷◌, ◌++◌, map, ℤ, pos, ◌+ℤ◌, ◌-ℤ◌, ◌*ℤ◌, sum_by, sym, refl, ap, ◌∙◌, suc-mul, add-one, arith}
use lib.IntN.{*ℤ-zero, zero-*ℤ}
use borrow.Author.Differences.{ints}
use Rattle.std.proofs.lemmas.List.Sums.{sum_by-cons}
use Rattle.std.proofs.lemmas.Bool.{both_ways}
use Rattle.sums.specs.Sums.{sum_z, when, when_z, upto}
use Rattle.sums.proofs.Ring.{distr_r, distr_l}

module _ {X : Type 0} where
  pub sum_ext : (f g : X → ℤ) → ((x : X) → f x ≡ g x) → (xs : List X) → sum_z f xs ≡ sum_z g xs
  sum_ext f g e [] = refl
  sum_ext f g e (x ∷ xs) = omega (arith, ints, e x, sum_ext f g e xs)

  pub sum_zero : (xs : List X) → sum_z (λ x. pos 0) xs ≡ pos 0
  sum_zero [] = refl
  sum_zero (x ∷ xs) = omega (arith, ints, sum_zero xs)

  pub sum_add : (f g : X → ℤ) (xs : List X) → sum_z (λ x. f x +ℤ g x) xs ≡ sum_z f xs +ℤ sum_z g xs
  sum_add f g [] = refl
  sum_add f g (x ∷ xs) = omega (arith, ints, sum_add f g xs)

  pub sum_sub : (f g : X → ℤ) (xs : List X) → sum_z (λ x. f x -ℤ g x) xs ≡ sum_z f xs -ℤ sum_z g xs
  sum_sub f g [] = refl
  sum_sub f g (x ∷ xs) = omega (arith, ints, sum_sub f g xs)

  pub sum_scale_l : (c : ℤ) (f : X → ℤ) (xs : List X) → sum_z (λ x. c *ℤ f x) xs ≡ c *ℤ sum_z f xs
  sum_scale_l c f [] = sym (*ℤ-zero c)
  sum_scale_l c f (x ∷ xs) = omega (arith, ints, sum_scale_l c f xs, distr_l c (f x) (sum_z f xs))

  pub sum_scale_r : (c : ℤ) (f : X → ℤ) (xs : List X) → sum_z (λ x. f x *ℤ c) xs ≡ sum_z f xs *ℤ c
  sum_scale_r c f [] = sym (zero-*ℤ c)
  sum_scale_r c f (x ∷ xs) = omega (arith, ints, sum_scale_r c f xs, distr_r (f x) (sum_z f xs) c)

  pub sum_append : (f : X → ℤ) (xs ys : List X) → sum_z f (xs ++ ys) ≡ sum_z f xs +ℤ sum_z f ys
  sum_append f [] ys = omega (arith, ints)
  sum_append f (x ∷ xs) ys = omega (arith, ints, sum_append f xs ys)

pub sum_map : {X Y : Type 0} (f : Y → ℤ) (g : X → Y) (xs : List X) → sum_z f (map g xs) ≡ sum_z (λ x. f (g x)) xs
sum_map f g [] = refl
sum_map f g (x ∷ xs) = ap (λ (z : ℤ). f (g x) +ℤ z) (sum_map f g xs)

pub sum_exchange : {X Y : Type 0} (f : X → Y → ℤ) (xs : List X) (ys : List Y) → sum_z (λ x. sum_z (f x) ys) xs ≡ sum_z (λ y. sum_z (λ x. f x y) xs) ys
sum_exchange f [] ys = sym (sum_zero ys)
sum_exchange f (x ∷ xs) ys = ap (λ (z : ℤ). sum_z (f x) ys +ℤ z) (sum_exchange f xs ys) ∙ sym (sum_add (f x) (λ y. sum_z (λ x. f x y) xs) ys)

when_moves : (b : Bool) (s t : ℤ) → when_z b s *ℤ t ≡ s *ℤ when_z b t
when_moves true s t = refl
when_moves false s t = zero-*ℤ t ∙ sym (*ℤ-zero s)

-- Weights s of things k, amounts t of parts p of things x, and a test c that says which part of which x counts
-- toward which k: weighing each amount by all the k that it counts toward comes to the same as weighing, for each
-- k, all the amounts that count toward it.
module _ {X P K : Type 0} (c : K → P → X → Bool) (s : K → ℤ) (t : X → P → ℤ) (ks : List K) (ps : List P) where
  one_part : (x : X) (p : P) → sum_z (λ k. when_z (c k p x) (s k)) ks *ℤ t x p ≡ sum_z (λ k. s k *ℤ when_z (c k p x) (t x p)) ks
  one_part x p =
      sym (sum_scale_r (t x p) (λ k. when_z (c k p x) (s k)) ks)
      ∙ sum_ext _ _ (λ k. when_moves (c k p x) (s k) (t x p)) ks

  one_thing : (x : X) → sum_z (λ p. sum_z (λ k. when_z (c k p x) (s k)) ks *ℤ t x p) ps ≡ sum_z (λ k. s k *ℤ sum_z (λ p. when_z (c k p x) (t x p)) ps) ks
  one_thing x =
      sum_ext _ _ (one_part x) ps
      ∙ sum_exchange (λ p k. s k *ℤ when_z (c k p x) (t x p)) ps ks
      ∙ sum_ext _ _ (λ k. sum_scale_l (s k) (λ p. when_z (c k p x) (t x p)) ps) ks

  pub weighed_either_way : (xs : List X)
      → sum_z (λ x. sum_z (λ p. sum_z (λ k. when_z (c k p x) (s k)) ks *ℤ t x p) ps) xs
      ≡ sum_z (λ k. s k *ℤ sum_z (λ x. sum_z (λ p. when_z (c k p x) (t x p)) ps) xs) ks
  weighed_either_way xs =
      sum_ext _ _ one_thing xs
      ∙ sum_exchange (λ x k. s k *ℤ sum_z (λ p. when_z (c k p x) (t x p)) ps) xs ks
      ∙ sum_ext _ _ (λ k. sum_scale_l (s k) (λ x. sum_z (λ p. when_z (c k p x) (t x p)) ps) xs) ks

-- ---- sums of natural numbers
-- one more number, as a loop takes it
pub upto_more : (f : ℕ → ℕ) (n : ℕ) → sum_by f (upto (n + 1)) ≡ sum_by f (upto n) + f n
upto_more f n = rw add-one (sum_by-cons f n (upto n) ∙ omega arith)

pub upto_none : (f : ℕ → ℕ) (n : ℕ) → ((k : ℕ) → f k ≡ 0) → sum_by f (upto n) ≡ 0
upto_none f zero h = refl
upto_none f (suc n) h = omega (arith, sum_by-cons f n (upto n), h n, upto_none f n h)

-- n terms of at most b, where n is at most c
pub upto_at_most : (f : ℕ → ℕ) (n c b : ℕ) → n ≤ c → ((k : ℕ) → f k ≤ b) → sum_by f (upto n) ≤ c * b
upto_at_most f zero c b h g = omega arith
upto_at_most f (suc n) zero b h g = absurd (omega arith)
upto_at_most f (suc n) (suc c) b h g = omega (arith, sum_by-cons f n (upto n), upto_at_most f n c b (omega arith) g, g n, suc-mul c b)

pub sum_by_mono : {X : Type 0} (f g : X → ℕ) → ((x : X) → f x ≤ g x) → (xs : List X) → sum_by f xs ≤ sum_by g xs
sum_by_mono f g h [] = omega arith
sum_by_mono f g h (x ∷ xs) = omega (arith, sum_by-cons f x xs, sum_by-cons g x xs, sum_by_mono f g h xs, h x)

pub when_mono : (a b : Bool) (n : ℕ) → (a ≡ true → b ≡ true) → when a n ≤ when b n
when_mono true true n h = omega arith
when_mono true false n h = absurd (both_ways false refl (h refl))
when_mono false b n h = omega arith

-- from natural numbers to integers
pub pos_sum : {X : Type 0} (f : X → ℕ) (xs : List X) → pos (sum_by f xs) ≡ sum_z (λ x. pos (f x)) xs
pos_sum f [] = refl
pos_sum f (x ∷ xs) = ap pos (sum_by-cons f x xs) ∙ ap (λ (z : ℤ). pos (f x) +ℤ z) (pos_sum f xs)

pub pos_when : (b : Bool) (n : ℕ) → pos (when b n) ≡ when_z b (pos n)
pos_when true n = refl
pos_when false n = refl
