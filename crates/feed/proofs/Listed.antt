-- A row at a place of some bytes is the row at this place of the list, if there is one.
use Rattle.std.proofs.Common.{◌≡◌, ℕ, List, map, inl, inr, refl}
use Rattle.std.specs.List.{range_with_len, slice_get}
use Rattle.std.proofs.lemmas.Bool.{cases_lt, lt-ltb, le-ltb}
use Rattle.feed.specs.Entries.{row_count, row_in}
use Rattle.feed.proofs.Fills.{counted_at, counted_past}

module _ {R : Type 0} (w : ℕ) (row : List ℕ → List ℕ → ℕ → R) (ns rs : List ℕ) (i : ℕ) where
  pub row_listed : row_in w row ns rs i ≡ slice_get (map (row ns rs) (range_with_len 0 (row_count w ns rs))) i
  row_listed =
      let n = row_count w ns rs in
      elim (cases_lt i n) [
        | inl h ↦ rw (lt-ltb i n h) (counted_at (row ns rs) n i (row ns rs i) h refl)
        | inr h ↦ rw (le-ltb i n h) (counted_past (row ns rs) n i h)
      ]
