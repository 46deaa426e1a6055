-- Writing into a buffer, piece after piece.
use Rattle.std.proofs.Common.{◌≡◌, ℕ, ◌+◌, ◌*◌, ◌<◌, ◌≤◌, List, [], ◌∷◌, ◌++◌, length, get_or, take, drop, sym, ap, ◌∙◌, subst, add-zero, mul-le-mul_left, mul-add, arith}
use borrow.Rule.Slice.PartMut.{put_mid}
use Rattle.std.specs.List.{flat_map, AllByRecursion}
use Rattle.std.proofs.ByRecursion.{All-more}
use Rattle.std.proofs.lemmas.List.{append_assoc, length-append, length-take-le, take_at, drop_at, take-append-drop, drop-drop, take_more, take_all, flat_map_more}
use Rattle.accounts.specs.declared.schedule.ScheduleRow.{ScheduleRow}
use Rattle.accounts.specs.declared.withdrawal.WithdrawalRow.{WithdrawalRow}
use Rattle.feed_writer.specs.Bytes.{bytes32, number_bytes, schedule_bytes, withdrawal_bytes, written}
use Rattle.feed_writer.specs.Lengths.{length_bytes32, length_schedule_bytes, length_withdrawal_bytes}

-- a part of a buffer that was written whole
pub put_written : (at k : ℕ) (bs xs ys : List ℕ) → ys ≡ bs → k ≡ length bs → put_mid at k xs ys ≡ written at bs xs
unfolding written
put_written at k bs xs ys e h = rw (e, h, drop-drop)

pub written_none : (at : ℕ) (xs : List ℕ) → written at [] xs ≡ xs
unfolding written
written_none at xs = rw (add-zero, take-append-drop)

-- one writing after another
written_more : (at n : ℕ) (a b xs : List ℕ) → n ≡ at + length a → n + length b ≤ length xs → written n b (written at a xs) ≡ written at (a ++ b) xs
unfolding written
written_more at n a b xs e h =
    let p : length (take at xs ++ a) ≡ n = simp length-append (omega (arith, length-take-le at xs)) in
    let r : take at xs ++ (a ++ drop (at + length a) xs) ≡ (take at xs ++ a) ++ drop n xs = rw (← e, append_assoc) in
    let t : take n (take at xs ++ (a ++ drop (at + length a) xs)) ≡ take at xs ++ a = ap (take n) r ∙ take_at _ _ n p in
    let d : drop (n + length b) (take at xs ++ (a ++ drop (at + length a) xs)) ≡ drop (n + length b) xs =
    sym (drop-drop (length b) n _) ∙ ap (drop (length b)) (ap (drop n) r ∙ drop_at _ _ n p) ∙ drop-drop (length b) n xs in
    let q : at + length (a ++ b) ≡ n + length b = simp length-append (omega arith) in
    rw (t, d, q, append_assoc, append_assoc)

-- the same, of buffers that two calls left
pub follows : (at n : ℕ) (a b xs ys zs : List ℕ) → ys ≡ written at a xs → zs ≡ written n b ys → n ≡ at + length a → n + length b ≤ length xs → zs ≡ written at (a ++ b) xs
follows at n a b xs ys zs p q e h = q ∙ ap (written n b) p ∙ written_more at n a b xs e h

-- one turn of n has room
pub turn_fits : (k i n : ℕ) → i < n → k * i + k ≤ k * n
turn_fits k i n h = omega (arith, mul-le-mul_left {m = i + 1} {n = n} k (omega arith), mul-add k i 1)

-- ---- a loop that writes k bytes for each element
module _ {X : Type 0} (f : X → List ℕ) (k : ℕ) (l : (x : X) → length (f x) ≡ k) where
  pub length_joined : (xs : List X) → length (flat_map f xs) ≡ k * length xs
  length_joined [] = omega arith
  length_joined (x ∷ xs) = simp length-append (omega (arith, l x, length_joined xs, mul-add k 1 (length xs)))

  module _ (at : ℕ) (xs : List X) (out : List ℕ) where
    pub rows_none : out ≡ written at (flat_map f (take 0 xs)) out
    rows_none = sym (written_none at out)

    -- ys is what the buffer held before the turn at i, zs what it holds after
    pub rows_more : (n i : ℕ) (x : X) (ys zs : List ℕ) → i < length xs → x ≡ get_or xs i x → n ≡ at + k * i → at + k * length xs ≤ length out
        → ys ≡ written at (flat_map f (take i xs)) out → zs ≡ written n (f x) ys → zs ≡ written at (flat_map f (take (i + 1) xs)) out
    rows_more n i x ys zs lt e en room p q =
        let len : length (flat_map f (take i xs)) ≡ k * i = length_joined (take i xs) ∙ ap (λ j. k * j) (length-take-le i xs (omega arith)) in
        let fit : k * i + k ≤ k * length xs = turn_fits k i (length xs) lt in
        let more : take (i + 1) xs ≡ take i xs ++ x ∷ [] = take_more xs i x lt ∙ ap (λ y. take i xs ++ y ∷ []) (sym e) in
        follows at n (flat_map f (take i xs)) (f x) out ys zs p q (omega (arith, len)) (omega (arith, l x))
        ∙ ap (λ z. written at z out) (flat_map_more f [] (take i xs) x ∙ ap (flat_map f) (sym more))

    pub rows_all : (i : ℕ) (ys : List ℕ) → length xs ≤ i → ys ≡ written at (flat_map f (take i xs)) out → ys ≡ written at (flat_map f xs) out
    rows_all i ys h p = p ∙ ap (λ zs. written at (flat_map f zs) out) (take_all i xs h)

-- ---- a loop that sees that P holds of each element
module _ {X : Type 0} (P : X → Type 0) (xs : List X) (i : ℕ) where
  pub each_more : (x : X) → i < length xs → x ≡ get_or xs i x → AllByRecursion P (take i xs) → P x → AllByRecursion P (take (i + 1) xs)
  each_more x lt e p h = All-more P xs i x lt p (subst P e h)

  pub each_all : length xs ≤ i → AllByRecursion P (take i xs) → AllByRecursion P xs
  each_all h p = subst (AllByRecursion P) (take_all i xs h) p

-- ---- how long lists of pieces are
pub length_numbers : (xs : List ℕ) → length (flat_map bytes32 xs) ≡ 4 * length xs
length_numbers xs = length_joined bytes32 4 length_bytes32 xs

pub length_row_numbers : {X : Type 0} (number : X → ℕ) (xs : List X) → length (number_bytes number xs) ≡ 4 * length xs
length_row_numbers number xs = length_joined (λ x. bytes32 (number x)) 4 (λ x. length_bytes32 (number x)) xs

pub length_schedules : (rows : List ScheduleRow) → length (flat_map schedule_bytes rows) ≡ 20 * length rows
length_schedules rows = length_joined schedule_bytes 20 length_schedule_bytes rows

pub length_withdrawals : (rows : List WithdrawalRow) → length (flat_map withdrawal_bytes rows) ≡ 12 * length rows
length_withdrawals rows = length_joined withdrawal_bytes 12 length_withdrawal_bytes rows
