-- What a curve is worth at a target and a quantity.
use Rattle.std.specs.Prelude.{ℕ, ◌+◌, ◌≤◌, cond, List, [], ◌∷◌, nat_le}
use Rattle.curves.specs.declared.step.Step.{Step}
use Rattle.curves.specs.Steps.{IsCurve}

-- the price of the first step whose margin, on top of quantity q, is within target t; else 0
abbrev pub value_at : List Step → ℕ → ℕ → ℕ
value_at [] t q = 0
value_at (s ∷ ss) t q = cond (nat_le (q + s.margin) t) s.price (value_at ss t q)

-- more quantity never raises a curve's value, and a higher target never lowers it
abbrev pub ValueLaw : Type 0
ValueLaw = (ss : List Step) → IsCurve ss
    → ((t q q' : ℕ) → q ≤ q' → value_at ss t q' ≤ value_at ss t q)
    × ((t t' q : ℕ) → t ≤ t' → value_at ss t q ≤ value_at ss t' q)
