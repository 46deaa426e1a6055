-- What a price at each place costs with the quantity there, as a chain over both lists sums it.
use Rattle.std.proofs.Common.{◌≡◌, ℕ, zero, suc, ◌+◌, ◌*◌, ◌^◌, ◌<◌, ◌≤◌, List, [], ◌∷◌, length, get_or, sum_by, sym, refl, ap, ◌∙◌, mul-le-mul, arith, Fits, w32}
use Rattle.std.specs.List.{zip}
use Rattle.std.proofs.lemmas.List.{get_or_default}
use Rattle.std.proofs.lemmas.List.Sums.{sum_by-cons}
use Rattle.std.proofs.lemmas.Slice.Zip.{length-zip, get_or-zip}
use Rattle.sums.specs.Sums.{upto}
use Rattle.sums.proofs.SumLaws.{upto_at_most}
use Rattle.planning.specs.Plans.{cost_at}

-- the first of some numbers apart
first_apart : (f : ℕ → ℕ) (n : ℕ) → sum_by f (upto (suc n)) ≡ f 0 + sum_by (λ k. f (suc k)) (upto n)
first_apart f zero = sum_by-cons f 0 []
first_apart f (suc n) = omega (arith, sum_by-cons f (suc n) (upto (suc n)), first_apart f n, sum_by-cons (λ k. f (suc k)) n (upto n))

pub by_pair : (shadow qs : List ℕ) → length shadow ≤ length qs → sum_by (λ (p : ℕ × ℕ). p.0 * p.1) (zip shadow qs) ≡ cost_at shadow qs
by_pair [] qs h = refl
by_pair (s ∷ ss) [] h = absurd (omega arith)
by_pair (s ∷ ss) (q ∷ qs) h =
    sum_by-cons (λ (p : ℕ × ℕ). p.0 * p.1) (s, q) (zip ss qs)
    ∙ ap (λ (n : ℕ). s * q + n) (by_pair ss qs (omega arith))
    ∙ sym (first_apart (λ k. get_or (s ∷ ss) k 0 * get_or (q ∷ qs) k 0) (length ss))

module _ (shadow qs : List ℕ) (low : (k : ℕ) → get_or qs k 0 ≤ 2 ^ 64) where
  pub pair_fits : (k : ℕ) (p : ℕ × ℕ) → k < length (zip shadow qs) → p ≡ get_or (zip shadow qs) k p → Fits w32 p.0 → p.0 * p.1 ≤ 2 ^ 32 * 2 ^ 64
  pair_fits k p h e f =
      let l = length-zip shadow qs in
      let there : k < length qs = omega arith in
      let q : p.1 ≡ get_or qs k 0 = ap (λ (y : ℕ × ℕ). y.1) (e ∙ get_or-zip shadow qs k p (omega arith) there) ∙ get_or_default qs k p.1 0 there in
      let r = low k in
      let price : p.0 ≤ 2 ^ 32 = omega arith in
      let quantity : p.1 ≤ 2 ^ 64 = omega arith in
      mul-le-mul price quantity

  pub all_fit : length shadow ≤ 32 → length shadow ≤ length qs → ((k : ℕ) → Fits w32 (get_or shadow k 0)) → sum_by (λ (p : ℕ × ℕ). p.0 * p.1) (zip shadow qs) < 2 ^ 128
  all_fit few long fits =
      let each : (k : ℕ) → get_or shadow k 0 * get_or qs k 0 ≤ 2 ^ 32 * 2 ^ 64 = λ k. (let f : get_or shadow k 0 ≤ 2 ^ 32 = omega (arith, fits k) in mul-le-mul f (low k)) in
      let all = upto_at_most (λ k. get_or shadow k 0 * get_or qs k 0) (length shadow) 32 (2 ^ 32 * 2 ^ 64) few each in
      let is = by_pair shadow qs long in
      omega arith
