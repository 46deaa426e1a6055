-- What is known of a value that is given only if a test holds.
use Rattle.std.proofs.Common.{◌≡◌, Bool, true, false, cond, is_some, refl}
use Rattle.std.specs.Option.{unwrap_or}
use Rattle.accounts.specs.Outcomes.{provided}

module _ {X : Type 0} where
  -- whether it is given tells the test
  pub tells : (b : Bool) (x : X) → is_some (provided b x) ≡ b
  tells true x = refl
  tells false x = refl

  -- it, or what was there
  pub or_kept : (b : Bool) (x a : X) → unwrap_or (provided b x) a ≡ cond b x a
  or_kept true x a = refl
  or_kept false x a = refl
