-- Numbers and rows that are written, and read back.
use Rattle.std.proofs.Common.{◌≡◌, ℕ, zero, suc, ◌+◌, ◌*◌, ◌/◌, ◌%◌, ◌<◌, ◌≤◌, List, [], ◌∷◌, ◌++◌, map, length, get_or, sym, refl, ap, ◌∙◌, subst, mod-eq_of_lt, mul-suc, arith, w32, to_z, of_z}
use native.Mathlib.Nat.{div-div-eq-div-mul}
use mir.Facts.{Fits-of_z}
use Rattle.std.specs.List.{range_with_len, flat_map, AllByRecursion}
use Rattle.std.proofs.lemmas.Nat.{div-add-mod', div_below}
use Rattle.std.proofs.ByRecursion.{All-get_or}
use Rattle.std.proofs.lemmas.List.{get_or_append_left, get_or-append-add}
use Rattle.std.proofs.lemmas.Int.{to_z-of_z}
use Rattle.accounts.specs.declared.schedule.ScheduleRow.{ScheduleRow}
use Rattle.accounts.specs.declared.withdrawal.WithdrawalRow.{WithdrawalRow}
use Rattle.feed.specs.Numbers.{le16, le32, number_in, numbers_in}
use Rattle.feed.specs.Entries.{schedule_row, schedule_rows, withdrawal_row, withdrawal_rows}
use Rattle.feed_writer.specs.Bytes.{bytes32, number_bytes, schedule_bytes, withdrawal_bytes}
use Rattle.feed_writer.specs.Fitting.{Word, Short, ScheduleFits, WithdrawalFits}
use Rattle.feed_writer.specs.Lengths.{length_bytes32, length_schedule_bytes, length_withdrawal_bytes}

-- ---- one number
regroup : (a b c d q r n : ℕ) → q * 256 + a ≡ n → r * 256 + b ≡ q → d * 256 + c ≡ r → a + b * 256 + c * 65536 + d * 16777216 ≡ n
regroup a b c d q r n e f g = omega arith

pub back32 : (n : ℕ) → Word n → n % 256 + n / 256 % 256 * 256 + n / 65536 % 256 * 65536 + n / 16777216 % 256 * 16777216 ≡ n
back32 n h =
    let q1 : n / 256 / 256 ≡ n / 65536 = div-div-eq-div-mul n 256 256 in
    let q2 : n / 65536 / 256 ≡ n / 16777216 = div-div-eq-div-mul n 65536 256 in
    let d0 : n / 256 * 256 + n % 256 ≡ n = div-add-mod' n 256 in
    let d1 : n / 65536 * 256 + n / 256 % 256 ≡ n / 256 = ap (λ z. z * 256 + n / 256 % 256) (sym q1) ∙ div-add-mod' (n / 256) 256 in
    let d2 : n / 16777216 * 256 + n / 65536 % 256 ≡ n / 65536 = ap (λ z. z * 256 + n / 65536 % 256) (sym q2) ∙ div-add-mod' (n / 65536) 256 in
    let d3 : n / 16777216 % 256 ≡ n / 16777216 = mod-eq_of_lt (div_below n 16777216 256 (omega arith) (omega arith)) in
    let P : ℕ → Type 0 = λ z. n % 256 + n / 256 % 256 * 256 + n / 65536 % 256 * 65536 + z * 16777216 ≡ n in
    subst P (sym d3) (regroup (n % 256) (n / 256 % 256) (n / 65536 % 256) (n / 16777216) (n / 256) (n / 65536) n d0 d1 d2)

pub back16 : (n : ℕ) → Short n → n % 256 + n / 256 % 256 * 256 ≡ n
back16 n h = omega arith

pub number_back : (n : ℕ) → Word n → le32 (bytes32 n) 0 ≡ n
unfolding bytes32
number_back n h = back32 n h

-- ---- a number within other bytes
pub le32_left : (a b : List ℕ) (i : ℕ) → i + 4 ≤ length a → le32 (a ++ b) i ≡ le32 a i
le32_left a b i h =
    rw (get_or_append_left a b 0 i (omega arith), get_or_append_left a b 0 (i + 1) (omega arith), get_or_append_left a b 0 (i + 2) (omega arith), get_or_append_left a b 0 (i + 3) (omega arith))

pub le32_right : (a b : List ℕ) (n i : ℕ) → n ≡ length a + i → le32 (a ++ b) n ≡ le32 b i
le32_right a b n i e =
    let e1 : n + 1 ≡ length a + (i + 1) = omega arith in
    let e2 : n + 2 ≡ length a + (i + 2) = omega arith in
    let e3 : n + 3 ≡ length a + (i + 3) = omega arith in
    rw (e1, e2, e3, e, get_or-append-add a b i 0, get_or-append-add a b (i + 1) 0, get_or-append-add a b (i + 2) 0, get_or-append-add a b (i + 3) 0)

pub le16_left : (a b : List ℕ) (i : ℕ) → i + 2 ≤ length a → le16 (a ++ b) i ≡ le16 a i
le16_left a b i h = rw (get_or_append_left a b 0 i (omega arith), get_or_append_left a b 0 (i + 1) (omega arith))

pub le16_right : (a b : List ℕ) (n i : ℕ) → n ≡ length a + i → le16 (a ++ b) n ≡ le16 b i
le16_right a b n i e =
    let e1 : n + 1 ≡ length a + (i + 1) = omega arith in
    rw (e1, e, get_or-append-add a b i 0, get_or-append-add a b (i + 1) 0)

-- what stands for element i begins at byte w * i, where each element has w bytes
module _ {X : Type 0} (f : X → List ℕ) (w : ℕ) (l : (x : X) → length (f x) ≡ w) where
  byte_in_joined : (xs : List X) (i j n : ℕ) (d : X) → i < length xs → j < w → n ≡ w * i + j → get_or (flat_map f xs) n 0 ≡ get_or (f (get_or xs i d)) j 0
  byte_in_joined [] i j n d h k e = absurd (omega arith)
  byte_in_joined (x ∷ xs) zero j n d h k e =
      let q : n ≡ j = omega arith in
      rw q (get_or_append_left (f x) (flat_map f xs) 0 j (omega (arith, l x)))
  byte_in_joined (x ∷ xs) (suc i) j n d h k e =
      let q : n ≡ length (f x) + (w * i + j) = omega (arith, l x, mul-suc w i) in
      rw q (get_or-append-add (f x) (flat_map f xs) (w * i + j) 0 ∙ byte_in_joined xs i j (w * i + j) d (omega arith) k refl)

  pub in_joined : (xs : List X) (i j n : ℕ) (d : X) → i < length xs → j + 4 ≤ w → n ≡ w * i + j → le32 (flat_map f xs) n ≡ le32 (f (get_or xs i d)) j
  in_joined xs i j n d h k e =
      rw (
        byte_in_joined xs i j n d h (omega arith) e,
        byte_in_joined xs i (j + 1) (n + 1) d h (omega arith) (omega arith),
        byte_in_joined xs i (j + 2) (n + 2) d h (omega arith) (omega arith),
        byte_in_joined xs i (j + 3) (n + 3) d h (omega arith) (omega arith),
      )

  pub in_joined16 : (xs : List X) (i j n : ℕ) (d : X) → i < length xs → j + 2 ≤ w → n ≡ w * i + j → le16 (flat_map f xs) n ≡ le16 (f (get_or xs i d)) j
  in_joined16 xs i j n d h k e = rw (byte_in_joined xs i j n d h (omega arith) e, byte_in_joined xs i (j + 1) (n + 1) d h (omega arith) (omega arith))

-- ---- lists
-- a list that f gives, place by place, from place a on
pub by_places_from : {X : Type 0} (xs : List X) (f : ℕ → X) (a : ℕ) → ((d : X) (i : ℕ) → i < length xs → f (a + i) ≡ get_or xs i d) → map f (range_with_len a (length xs)) ≡ xs
by_places_from [] f a h = refl
by_places_from (x ∷ xs) f a h =
    let e : f a ≡ x = ap f (omega arith) ∙ h x 0 (omega arith) in
    rw (e, by_places_from xs f (a + 1) (λ d i l. ap f (omega arith) ∙ h d (suc i) (omega arith)))

pub by_places : {X : Type 0} (xs : List X) (f : ℕ → X) → ((d : X) (i : ℕ) → i < length xs → f i ≡ get_or xs i d) → map f (range_with_len 0 (length xs)) ≡ xs
by_places xs f h = by_places_from xs f 0 (λ d i l. ap f (omega arith) ∙ h d i l)

pub numbers_back : (ns : List ℕ) → AllByRecursion Word ns → numbers_in (flat_map bytes32 ns) (length ns) ≡ ns
numbers_back ns h =
    by_places ns (number_in (flat_map bytes32 ns))
    (λ d i l. in_joined bytes32 4 length_bytes32 ns i 0 (4 * i) d l (omega arith) (omega arith) ∙ number_back (get_or ns i d) (All-get_or Word ns i d l h))

module _ {X : Type 0} (number : X → ℕ) (xs : List X) (h : AllByRecursion (λ x. Word (number x)) xs) where
  number_of_row : (i : ℕ) (d : X) → i < length xs → number_in (number_bytes number xs) i ≡ number (get_or xs i d)
  number_of_row i d l =
      in_joined (λ x. bytes32 (number x)) 4 (λ x. length_bytes32 (number x)) xs i 0 (4 * i) d l (omega arith) (omega arith)
      ∙ number_back (number (get_or xs i d)) (All-get_or (λ x. Word (number x)) xs i d l h)

-- ---- one row
schedule_energy : (r : ScheduleRow) → ScheduleFits r → to_z w32 (le32 (schedule_bytes r) 0) ≡ r.energy
unfolding schedule_bytes bytes32
schedule_energy r h = ap (to_z w32) (back32 (of_z w32 r.energy) (Fits-of_z h.energy).fits) ∙ to_z-of_z w32 r.energy h.energy

schedule_regulation : (r : ScheduleRow) → ScheduleFits r → le32 (schedule_bytes r) 4 ≡ r.regulation
unfolding schedule_bytes bytes32
schedule_regulation r h = back32 r.regulation h.regulation

schedule_spinning : (r : ScheduleRow) → ScheduleFits r → le32 (schedule_bytes r) 8 ≡ r.reserves.spinning
unfolding schedule_bytes bytes32
schedule_spinning r h = back32 r.reserves.spinning h.spinning

schedule_ten : (r : ScheduleRow) → ScheduleFits r → le32 (schedule_bytes r) 12 ≡ r.reserves.ten
unfolding schedule_bytes bytes32
schedule_ten r h = back32 r.reserves.ten h.ten

schedule_thirty : (r : ScheduleRow) → ScheduleFits r → le32 (schedule_bytes r) 16 ≡ r.reserves.thirty
unfolding schedule_bytes bytes32
schedule_thirty r h = back32 r.reserves.thirty h.thirty

withdrawal_gross : (r : WithdrawalRow) → WithdrawalFits r → le32 (withdrawal_bytes r) 0 ≡ r.gross
unfolding withdrawal_bytes bytes32
withdrawal_gross r h = back32 r.gross h.gross

withdrawal_station : (r : WithdrawalRow) → WithdrawalFits r → le32 (withdrawal_bytes r) 4 ≡ r.station
unfolding withdrawal_bytes bytes32
withdrawal_station r h = back32 r.station h.station

withdrawal_exports : (r : WithdrawalRow) → WithdrawalFits r → le32 (withdrawal_bytes r) 8 ≡ r.exports
unfolding withdrawal_bytes bytes32
withdrawal_exports r h = back32 r.exports h.exports

-- ---- all rows
module _ (rs : List ScheduleRow) (h : AllByRecursion (λ r. Word r.number) rs) (g : AllByRecursion ScheduleFits rs) where
  schedule_back : (i : ℕ) (d : ScheduleRow) → i < length rs → schedule_row (number_bytes (λ r. r.number) rs) (flat_map schedule_bytes rs) i ≡ get_or rs i d
  schedule_back i d l =
      let r : ScheduleRow = get_or rs i d in
      let f : ScheduleFits r = All-get_or ScheduleFits rs i d l g in
      let at : (j n : ℕ) → j + 4 ≤ 20 → n ≡ 20 * i + j → le32 (flat_map schedule_bytes rs) n ≡ le32 (schedule_bytes r) j =
      λ j n k e. in_joined schedule_bytes 20 length_schedule_bytes rs i j n d l k e in
      let a : number_in (number_bytes (λ r. r.number) rs) i ≡ r.number = number_of_row (λ r. r.number) rs h i d l in
      let b : to_z w32 (le32 (flat_map schedule_bytes rs) (20 * i)) ≡ r.energy = ap (to_z w32) (at 0 (20 * i) (omega arith) (omega arith)) ∙ schedule_energy r f in
      let e : le32 (flat_map schedule_bytes rs) (20 * i + 4) ≡ r.regulation = at 4 (20 * i + 4) (omega arith) refl ∙ schedule_regulation r f in
      let s : le32 (flat_map schedule_bytes rs) (20 * i + 8) ≡ r.reserves.spinning = at 8 (20 * i + 8) (omega arith) refl ∙ schedule_spinning r f in
      let t : le32 (flat_map schedule_bytes rs) (20 * i + 12) ≡ r.reserves.ten = at 12 (20 * i + 12) (omega arith) refl ∙ schedule_ten r f in
      let u : le32 (flat_map schedule_bytes rs) (20 * i + 16) ≡ r.reserves.thirty = at 16 (20 * i + 16) (omega arith) refl ∙ schedule_thirty r f in
      rw (a, b, e, s, t, u)

  pub schedules_back : schedule_rows (number_bytes (λ r. r.number) rs) (flat_map schedule_bytes rs) (length rs) ≡ rs
  schedules_back = by_places rs _ (λ d i l. schedule_back i d l)

module _ (rs : List WithdrawalRow) (h : AllByRecursion (λ r. Word r.number) rs) (g : AllByRecursion WithdrawalFits rs) where
  withdrawal_back : (i : ℕ) (d : WithdrawalRow) → i < length rs → withdrawal_row (number_bytes (λ r. r.number) rs) (flat_map withdrawal_bytes rs) i ≡ get_or rs i d
  withdrawal_back i d l =
      let r : WithdrawalRow = get_or rs i d in
      let f : WithdrawalFits r = All-get_or WithdrawalFits rs i d l g in
      let at : (j n : ℕ) → j + 4 ≤ 12 → n ≡ 12 * i + j → le32 (flat_map withdrawal_bytes rs) n ≡ le32 (withdrawal_bytes r) j =
      λ j n k e. in_joined withdrawal_bytes 12 length_withdrawal_bytes rs i j n d l k e in
      let a : number_in (number_bytes (λ r. r.number) rs) i ≡ r.number = number_of_row (λ r. r.number) rs h i d l in
      let b : le32 (flat_map withdrawal_bytes rs) (12 * i) ≡ r.gross = at 0 (12 * i) (omega arith) (omega arith) ∙ withdrawal_gross r f in
      let e : le32 (flat_map withdrawal_bytes rs) (12 * i + 4) ≡ r.station = at 4 (12 * i + 4) (omega arith) refl ∙ withdrawal_station r f in
      let s : le32 (flat_map withdrawal_bytes rs) (12 * i + 8) ≡ r.exports = at 8 (12 * i + 8) (omega arith) refl ∙ withdrawal_exports r f in
      rw (a, b, e, s)

  pub withdrawals_back : withdrawal_rows (number_bytes (λ r. r.number) rs) (flat_map withdrawal_bytes rs) (length rs) ≡ rs
  withdrawals_back = by_places rs _ (λ d i l. withdrawal_back i d l)
