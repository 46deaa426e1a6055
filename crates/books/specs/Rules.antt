-- What a closure answers of accounts, their rows and places.
use Rattle.std.specs.Prelude.{◌≡◌, ℕ}
use Rattle.std.specs.Fn.{Shared}
use Rattle.std.specs.Borrow.{Bor}

module _ {F R : Type 0} where
  -- of an account, what h gives
  abbrev pub Answers : {X : Type 0} → Shared F (Bor X × Unit {0}) R → F → (X → R) → Type 0
  Answers {X} g f h = (x : Bor X) (r : R) → g.post f (x, tt) r → r ≡ h x.now

  -- of an account and its row
  abbrev pub AnswersByRow : {X Y : Type 0} → Shared F (Bor X × (Bor Y × Unit {0})) R → F → (X → Y → R) → Type 0
  AnswersByRow {X} {Y} g f h = (x : Bor X) (y : Bor Y) (r : R) → g.post f (x, (y, tt)) r → r ≡ h x.now y.now

  -- of a place
  abbrev pub Faults : Shared F (ℕ × Unit {0}) R → F → (ℕ → R) → Type 0
  Faults g f h = (i : ℕ) (r : R) → g.post f (i, tt) r → r ≡ h i
