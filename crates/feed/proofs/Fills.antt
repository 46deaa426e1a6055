-- Lists that are read by place, or written into the front of an array.
use Rattle.std.proofs.Common.{◌≡◌, ℕ, ◌+◌, ◌<◌, ◌≤◌, min, List, [], ◌∷◌, ◌++◌, map, length, take, drop, set, Some, None, sym, refl, ap, ◌∙◌, arith}
use Rattle.std.specs.List.{range_with_len, slice_get}
use Rattle.std.proofs.lemmas.List.FromFn.{length-map-range_with_len, get_or-map-range_with_len, take-map-range_with_len, map-range_with_len_more}
use Rattle.std.proofs.lemmas.List.{take_all, take_at, drop_at, take_more_set}
use Rattle.std.proofs.lemmas.Option.{slice_get-get_or, slice_get_past}
use Rattle.feed.specs.Filling.{Filled}

-- one more is written, of a list that begins at a
pub written : {X : Type 0} (f : ℕ → X) (all : List X) (a i : ℕ) (x : X) → i < length all → x ≡ f (a + i) → take i all ≡ map f (range_with_len a i) → take (i + 1) (set all i x) ≡ map f (range_with_len a (i + 1))
written f all a i x h e k =
    take_more_set all i x h ∙ ap (λ ys. ys ++ x ∷ []) k ∙ ap (λ y. map f (range_with_len a i) ++ y ∷ []) e ∙ sym (map-range_with_len_more f a i (a + i) refl)

-- all n are written, into the front of a list of which rest stands behind
pub all_written : {X : Type 0} (f : ℕ → X) (a n i : ℕ) (part : List X) → length part ≡ n → i ≡ n → take i part ≡ map f (range_with_len a i) → part ≡ map f (range_with_len a n)
all_written f a n i part l e k = sym (take_all n part (omega arith)) ∙ (rw e at k)

pub front_written : {X : Type 0} (f : ℕ → X) (a n i : ℕ) (part rest : List X) → length part ≡ n → i ≡ n → take i part ≡ map f (range_with_len a i)
    → take n (part ++ rest) ≡ map f (range_with_len a n)
front_written f a n i part rest l e k = take_at part rest n l ∙ all_written f a n i part l e k

module _ {X : Type 0} (f : ℕ → X) (m : ℕ) where
  pub counted_at : (i : ℕ) (x : X) → i < m → x ≡ f i → Some x ≡ slice_get (map f (range_with_len 0 m)) i
  counted_at i x h e =
      ap (λ y. Some y) (e ∙ sym (get_or-map-range_with_len f 0 m i i x h (omega arith)))
      ∙ sym (slice_get-get_or (map f (range_with_len 0 m)) i x (rw (length-map-range_with_len f 0 m) h))

  pub counted_past : (i : ℕ) → m ≤ i → None ≡ slice_get (map f (range_with_len 0 m)) i
  counted_past i h = sym (slice_get_past (map f (range_with_len 0 m)) i (rw (length-map-range_with_len f 0 m) h))

  pub filled : (n i : ℕ) (before part : List X) → n ≡ min m (length before) → length part ≡ n → i ≡ n → take i part ≡ map f (range_with_len 0 i)
      → Filled n (map f (range_with_len 0 m)) before (part ++ drop n before)
  filled n i before part e q j k =
      let l = length-map-range_with_len f 0 m in
      let t : take n (part ++ drop n before) ≡ map f (range_with_len 0 n) = front_written f 0 n i part (drop n before) q j k in
      record {
        count = omega arith;
        front = t ∙ sym (take-map-range_with_len f 0 m n (omega arith));
        rest = drop_at part (drop n before) n q;
        all = λ h. let r : n ≡ m = omega arith in t ∙ ap (λ j. map f (range_with_len 0 j)) r;
      }
