-- What sharing out returns.
use Rattle.std.specs.Prelude.{◌≡◌, ℕ, List, ℤ, pos, ◌+ℤ◌, ◌*ℤ◌, sum}
use Rattle.sharing.specs.declared.shares.Shares.{Shares}
use Rattle.sharing.specs.Rule.{Rule, InRange}
use Rattle.sharing.specs.Shares.{grains_per_cent, whole, shared, total, new_carry, WellShared}

-- the most parts that are shared among
abbrev pub most_shares : ℕ
most_shares = 256

-- s is what the rule makes of G grains and the parts ws
pub record SharedOut (r : Rule) (G : ℤ) (ws : List ℕ) (s : Shares) : Type 0 where
  pub value : s.cents.items ≡ shared r G ws
  pub carry : s.carry ≡ new_carry G (shared r G ws)
  pub law : InRange (whole G) (sum ws) → WellShared G ws s.cents.items s.carry
  pub kept : pos grains_per_cent *ℤ total s.cents.items +ℤ s.carry ≡ G
