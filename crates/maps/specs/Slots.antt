-- How the slots are numbered.
use Rattle.std.specs.Prelude.{◌≡◌, ℕ, zero, suc, ◌+◌, ◌<◌, ◌≤◌, Bool, true, false, cond, List, [], ◌∷◌, ◌++◌, length, slice_index, refl}
use Rattle.std.proofs.Common.{sym, ◌∙◌, ap, inl, inr, add-one, eq-or-lt_of_le, arith, length-append}
use Rattle.std.proofs.Math.Seq.{get_or-append_seam}
use Rattle.std.proofs.lemmas.List.{get_or_append_left}
use Rattle.std.proofs.lemmas.Bool.Decides.{nat_tests}
use Rattle.maps.specs.Tree.{slots}

length_one : (b : Bool) (n : ℕ) → length (cond b (n ∷ []) []) ≡ cond b 1 0
length_one true n = refl
length_one false n = refl

pub slots_more : (test : ℕ → Bool) (n : ℕ) → length (slots test (n + 1)) ≡ length (slots test n) + cond (test n) 1 0
slots_more test n = rw add-one (length-append (slots test n) (cond (test n) (n ∷ []) []) ∙ ap (λ (k : ℕ). length (slots test n) + k) (length_one (test n) n))

pub slots_few : (test : ℕ → Bool) (n : ℕ) → length (slots test n) ≤ n
slots_few test zero = omega arith
slots_few test (suc n) = let h = slots_few test n in let m = slots_more test n in let a : n + 1 ≡ suc n = omega arith in grind (arith, nat_tests)

pub slots_below : (test : ℕ → Bool) (r n : ℕ) → r < n → test r ≡ true → length (slots test r) < length (slots test n)
slots_below test r zero h t = absurd (omega arith)
slots_below test r (suc n) h t =
    let m : length (slots test (suc n)) ≡ length (slots test n) + cond (test n) 1 0 = rw add-one at (slots_more test n) in
    let le : r ≤ n = omega arith in
    elim (eq-or-lt_of_le le) [
      | inr l ↦ (let i = slots_below test r n l t in grind (arith, nat_tests))
      | inl e ↦ (let tn : test n ≡ true = rw (← e) t in grind (arith, nat_tests))
    ]

last_one : (b : Bool) (xs : List ℕ) (n : ℕ) → b ≡ true → slice_index (xs ++ cond b (n ∷ []) []) (length xs) ≡ n
last_one b xs n e = rw e (get_or-append_seam xs n [] 0)

-- the slot r, if a requirement stands there, has the number of those before it
pub slot_is : (test : ℕ → Bool) (n k r : ℕ) → r < n → test r ≡ true → length (slots test r) ≡ k → slice_index (slots test n) k ≡ r
slot_is test zero k r h t e = absurd (omega arith)
slot_is test (suc n) k r h t e =
    let le : r ≤ n = omega arith in
    elim (eq-or-lt_of_le le) [
      | inr l ↦ (let b = slots_below test r n l t in let lt : k < length (slots test n) = omega arith in get_or_append_left (slots test n) (cond (test n) (n ∷ []) []) 0 k lt ∙ slot_is test n k r l t e)
      | inl q ↦ (
          let tn : test n ≡ true = rw (← q) t in
          let len : length (slots test n) ≡ k = ap (λ (j : ℕ). length (slots test j)) (sym q) ∙ e in
          ap (λ (j : ℕ). slice_index (slots test n ++ cond (test n) (n ∷ []) []) j) (sym len) ∙ last_one (test n) (slots test n) n tn ∙ sym q)
    ]

pub slots_same : (c d : ℕ → Bool) → ((j : ℕ) → c j ≡ d j) → (n : ℕ) → slots c n ≡ slots d n
slots_same c d e zero = refl
slots_same c d e (suc n) = cc (e n, slots_same c d e n)
