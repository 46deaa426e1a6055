-- The down rule and the running rule among all rules.
use Rattle.std.specs.Prelude.{◌≡◌, ℕ, List, ℤ, pos, ◌≤ℤ◌, sum}
use Rattle.sharing.specs.Rule.{Rule, InRange, down, running}
use Rattle.sharing.specs.Shares.{whole, rest, shared, total, new_carry}

-- no rule gives less than the down rule, or more than the running rule
pub record BetweenTheEnds (r : Rule) : Type 0 where
  pub least : (T : ℤ) (B w W : ℕ) → (down T B w W) ≤ℤ (r T B w W)
  pub most : (T : ℤ) (B w W : ℕ) → (r T B w W) ≤ℤ (running T B w W)

-- by the running rule all whole cents are shared, and only the rest is carried on
pub record RunningSharesAll : Type 0 where
  pub all : (G : ℤ) (ws : List ℕ) → InRange (whole G) (sum ws) → total (shared running G ws) ≡ whole G
  pub carry : (G : ℤ) (ws : List ℕ) → InRange (whole G) (sum ws) → new_carry G (shared running G ws) ≡ pos (rest G)
