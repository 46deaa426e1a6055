-- Distributivity and associativity of integers. `omega (arith, ints)` does the linear rest.
use Rattle.std.proofs.Common.{◌≡◌, ℕ, ◌+◌, ◌*◌, ℤ, pos, ◌+ℤ◌, ◌-ℤ◌, ◌*ℤ◌, neg_ℤ, ap, ◌∙◌, arith}
use lib.IntN.{ -ℤ-+ℤ_cancel, *ℤ_comm, *ℤ-zero, +ℤ_invr}
use borrow.Author.Differences.{ints, up, down, sum_is_lem, product_is, same_in}

pub distr_r : (a b c : ℤ) → (a +ℤ b) *ℤ c ≡ a *ℤ c +ℤ b *ℤ c
distr_r a b c =
    let p : (up (a +ℤ b) + down a + down b) * up c ≡ (down (a +ℤ b) + up a + up b) * up c = ap (λ (x : ℕ). x * up c) (sum_is_lem a b) in
    let q : (up (a +ℤ b) + down a + down b) * down c ≡ (down (a +ℤ b) + up a + up b) * down c = ap (λ (x : ℕ). x * down c) (sum_is_lem a b) in
    omega (arith, ints)

pub distr_l : (c a b : ℤ) → c *ℤ (a +ℤ b) ≡ c *ℤ a +ℤ c *ℤ b
distr_l c a b = omega (arith, ints, distr_r a b c)

pub *ℤ-assoc : (a b c : ℤ) → (a *ℤ b) *ℤ c ≡ a *ℤ (b *ℤ c)
*ℤ-assoc a b c =
    same_in _ _ (rw ((product_is (a *ℤ b) c).0, (product_is (a *ℤ b) c).1, (product_is a (b *ℤ c)).0, (product_is a (b *ℤ c)).1, (product_is a b).0, (product_is a b).1, (product_is b c).0, (product_is b c).1) (omega arith))

pub distr_sub_r : (a b c : ℤ) → (a -ℤ b) *ℤ c ≡ a *ℤ c -ℤ b *ℤ c
distr_sub_r a b c = omega (arith, ints, distr_r (a -ℤ b) b c, ap (λ (x : ℤ). x *ℤ c) (-ℤ-+ℤ_cancel a b))

pub distr_sub_l : (c a b : ℤ) → c *ℤ (a -ℤ b) ≡ c *ℤ a -ℤ c *ℤ b
distr_sub_l c a b = *ℤ_comm c (a -ℤ b) ∙ distr_sub_r a b c ∙ omega (arith, ints)

pub neg_r : (a b : ℤ) → a *ℤ neg_ℤ b ≡ neg_ℤ (a *ℤ b)
neg_r a b = lin (a *ℤ b) (a *ℤ neg_ℤ b) _ (distr_l a b (neg_ℤ b)) (ap (λ (z : ℤ). a *ℤ z) (+ℤ_invr b) ∙ *ℤ-zero a)
  where
    lin : (p q z : ℤ) → z ≡ p +ℤ q → z ≡ pos 0 → q ≡ neg_ℤ p
    lin p q z e f = omega (arith, ints)
