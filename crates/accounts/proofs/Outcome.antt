-- What is known of a value that is given only if a test holds.
use Rattle.std.proofs.Common.{◌≡◌, ℕ, Bool, true, false, Some, None, refl, arith}
use Rattle.std.specs.Bool.{then_some}
use Rattle.accounts.specs.Outcomes.{provided}

module _ {X : Type 0} where
  pub given : (b : Bool) (x y : X) → Some y ≡ provided b x → (b ≡ true) × (y ≡ x)
  given true x y e = (refl, cc)
  given false x y e = let z : ◌≡◌ {A = ℕ} 0 1 = cc in absurd (omega arith)

  pub withheld : (b : Bool) (x : X) → None ≡ provided b x → b ≡ false
  withheld true x e = let z : ◌≡◌ {A = ℕ} 0 1 = cc in absurd (omega arith)
  withheld false x e = refl

  pub gives : (b : Bool) (x y : X) → b ≡ true → y ≡ x → Some y ≡ provided b x
  gives b x y e f = rw (e, f)

  pub then_some_is : (b : Bool) (x : X) → then_some b x ≡ provided b x
  then_some_is true x = refl
  then_some_is false x = refl
