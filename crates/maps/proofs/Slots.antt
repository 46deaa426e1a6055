-- A place in a list of slots.
use Rattle.std.proofs.Common.{◌≡◌, ℕ, ◌+◌, ◌*◌, ◌/◌, ◌%◌, ◌^◌, ◌<◌, ◌≤◌, ◌≢◌, suc, zero, Bool, true, false, cond, ltb, lt-ltb, Some, None, List, length, get_or, refl, sym, ap, ◌∙◌, inl, inr, arith, length-append}
use Rattle.std.proofs.Math.ListN.{get_or-map}
use Rattle.std.proofs.Math.Nat.{zero-div}
use Rattle.std.specs.Bool.{MatchBool}
use Rattle.std.specs.List.{slice_get, HoldsAt, AllWithin}
use Rattle.std.proofs.lemmas.Bool.{cases_lt, eq-eqb, eqb-false, le-ltb}
use Rattle.std.proofs.lemmas.List.{get_or_past}
use Rattle.std.proofs.lemmas.Option.{slice_get-get_or, slice_get_within, get_or_from_slice_get}
use Rattle.maps.specs.declared.place.Place.{Place}
use Rattle.maps.specs.Places.{masks_of}
use Rattle.maps.specs.Tree.{slots, wanted_at, requirement_slots, has_bit_lem}
use Rattle.maps.specs.Slots.{slots_below, slots_more, slot_is}

-- product q at location i is slot 3 * i + q
asked_at : (ms : List ℕ) (i q : ℕ) → q < 3 → wanted_at ms (3 * i + q) ≡ has_bit_lem (get_or ms i 0) q
asked_at ms i q h =
    let d : (3 * i + q) / 3 ≡ i = omega arith in
    let r : (3 * i + q) % 3 ≡ q = omega arith in
    rw (d, r)

-- it adds to the count where the location asks for it
pub one_more : (ps : List Place) (i q : ℕ) → q < 3
    → length (slots (wanted_at (masks_of ps)) (3 * i + (q + 1)))
    ≡ length (slots (wanted_at (masks_of ps)) (3 * i + q)) + cond (has_bit_lem (get_or ps i (record { parent = 0; mask = 0 })).mask q) 1 0
one_more ps i q h =
    let e : 3 * i + (q + 1) ≡ 3 * i + q + 1 = omega arith in
    let m = get_or-map (λ (p : Place). p.mask) ps i (record { parent = 0; mask = 0 }) in
    rw (e, slots_more (wanted_at (masks_of ps)) (3 * i + q), asked_at (masks_of ps) i q h, m)

-- the slot r, if a requirement stands there, is the one with as many before it
pub slot_stands : (test : ℕ → Bool) (n k r : ℕ) → r < n → test r ≡ true → length (slots test r) ≡ k → Some r ≡ slice_get (slots test n) k
slot_stands test n k r l t e =
    let b : k < length (slots test n) = omega (arith, slots_below test r n l t) in
    sym (slice_get-get_or (slots test n) k 0 b ∙ ap Some (slot_is test n k r l t e))

pub found_at : (xs : List ℕ) (k s : ℕ) → Some s ≡ slice_get xs k → (k < length xs) × (get_or xs k 0 ≡ s)
found_at xs k s e = (slice_get_within xs k s (sym e), get_or_from_slice_get xs k s 0 (sym e))

pub none_at : (xs : List ℕ) (k : ℕ) → None ≡ slice_get xs k → length xs ≤ k
none_at xs k e = elim (cases_lt k (length xs)) [
  | inl l ↦ (let s = slice_get-get_or xs k 0 l in let z : ◌≡◌ {A = ℕ} 0 1 = cc in absurd (omega arith))
  | inr g ↦ g
]

-- ---- whether there are any
-- a mask of three bits that is not zero asks for a product
bit_of : (m : ℕ) → m ≤ 7 → m ≢ 0 → (a b : Bool) → has_bit_lem m 0 ≡ a → has_bit_lem m 1 ≡ b → (q : ℕ) × (q < 3) × (has_bit_lem m q ≡ true)
bit_of m h n true b e f = (0, omega arith, e)
bit_of m h n false true e f = (1, omega arith, f)
bit_of m h n false false e f = (2, omega arith, eq-eqb _ 1 (omega (arith, eqb-false (m / 1 % 2) 1 e, eqb-false (m / 2 % 2) 1 f)))

none_stand : (test : ℕ → Bool) → ((j : ℕ) → test j ≡ false) → (n : ℕ) → length (slots test n) ≡ 0
none_stand test h zero = refl
none_stand test h (suc n) = let e = slots_more test n in let i = none_stand test h n in let t = h n in rw (length-append, t) (omega arith)

zero_asks : (q : ℕ) → has_bit_lem 0 q ≡ false
zero_asks q = rw (zero-div (2 ^ q)) refl

-- requirements stand where some mask is not zero
pub any_stand : (ms : List ℕ) (b : Bool) → ((k : ℕ) → k < length ms → get_or ms k 0 ≤ 7)
    → MatchBool b ((k : ℕ) × (k < length ms) × HoldsAt (λ m. m ≢ 0) ms k) (AllWithin (λ m. m ≡ 0) ms 0 (length ms))
    → b ≡ ltb 0 (length (requirement_slots (length ms) ms))
any_stand ms true few (k, l, here) =
    let m = get_or ms k 0 in
    let a = bit_of m (few k l) (here 0) (has_bit_lem m 0) (has_bit_lem m 1) refl refl in
    let r : wanted_at ms (3 * k + a.0) ≡ true = asked_at ms k a.0 a.1 ∙ a.2 in
    let s : 3 * k + a.0 < 3 * length ms = omega (arith, a.1) in
    sym (lt-ltb 0 _ (omega (arith, slots_below (wanted_at ms) (3 * k + a.0) (3 * length ms) s r)))
any_stand ms false few all =
    let zeros : (k : ℕ) → get_or ms k 0 ≡ 0 = λ k. elim (cases_lt k (length ms)) [ inl l ↦ all k 0 (omega arith) l | inr g ↦ get_or_past ms k 0 g ] in
    let none : (j : ℕ) → wanted_at ms j ≡ false = λ j. rw (zeros (j / 3)) (zero_asks (j % 3)) in
    sym (le-ltb 0 _ (omega (arith, none_stand (wanted_at ms) none (3 * length ms))))
