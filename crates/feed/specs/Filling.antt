-- A list that is written into the front of another.
use Rattle.std.specs.Prelude.{◌≡◌, ℕ, ◌≤◌, min, List, length, take, drop}

-- the first n places hold the first n of xs, as many as there are and as fit, and the others what they held
pub record Filled {X : Type 0} (n : ℕ) (xs before after : List X) : Type 0 where
  pub count : n ≡ min (length xs) (length before)
  pub front : take n after ≡ take n xs
  pub rest : drop n after ≡ drop n before
  pub all : length xs ≤ length before → take n after ≡ xs
