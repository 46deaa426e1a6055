-- A set of feeds: for each its length in four bytes, and then its bytes.
use Rattle.std.specs.Prelude.{◌≡◌, ℕ, ◌+◌, ◌<◌, ◌≤◌, List, length, take, drop, Some, None, Option}
use Rattle.std.specs.Borrow.{Bor}
use Rattle.feed.specs.Numbers.{le32}

-- the first feed of the set and what follows it, or none where the set ends before
abbrev pub Splits : List ℕ → Option (Bor (List ℕ) × Bor (List ℕ)) → Type 0
Splits set None = length set < 4 + le32 set 0
Splits set (Some p) =
    (4 + le32 set 0 ≤ length set) × (p.0.now ≡ take (le32 set 0) (drop 4 set)) × (p.1.now ≡ drop (le32 set 0) (drop 4 set))
