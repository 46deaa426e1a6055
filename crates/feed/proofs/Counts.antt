-- The number of steps of a curve, and the number of its first step.
use Rattle.std.proofs.Common.{◌≡◌, ℕ, zero, suc, ◌+◌, ◌*◌, ◌<◌, ◌≤◌, List, [], map, take, drop, slice_index_or, inl, inr, eq-or-lt_of_le, add-one, ap, ◌∙◌, arith}
use Rattle.std.proofs.lemmas.List.{get_or-take, get_or-drop}
use Rattle.std.specs.List.{range_with_len, slice_index}
use Rattle.std.specs.Simd.{first_chunks}
use Rattle.feed.specs.CurveFile.{first_step, step_count_lem, step_in, curve_steps}

pub first_step_next : (bs : List ℕ) (k : ℕ) → first_step bs (k + 1) ≡ first_step bs k + step_count_lem bs k
first_step_next bs k = rw (add-one k)

-- a curve's steps are among those of the first n curves
pub steps_within : (bs : List ℕ) (k n : ℕ) → k < n → first_step bs k + step_count_lem bs k ≤ first_step bs n
steps_within bs k zero h = absurd (omega arith)
steps_within bs k (suc n) h =
    let le : k ≤ n = omega arith in
    elim (eq-or-lt_of_le le) [
      | inl e ↦ rw e (omega arith)
      | inr l ↦ (let r = steps_within bs k n l in omega arith)
    ]

pub steps_are : (bs : List ℕ) (k first count : ℕ) → first ≡ first_step bs k → count ≡ step_count_lem bs k → map (step_in bs) (range_with_len first count) ≡ curve_steps bs k
steps_are bs k first count e f = rw (e, f)

-- byte j of the i-th two bytes
pair_byte : (m i j : ℕ) (xs : List ℕ) → i < m → j < 2 → slice_index_or (slice_index_or (first_chunks 2 m xs) i []) j 0 ≡ slice_index_or xs (2 * i + j) 0
pair_byte zero i j xs h l = absurd (omega arith)
pair_byte (suc m) zero j xs h l = get_or-take 2 xs j 0 l ∙ ap (λ n. slice_index_or xs n 0) (omega arith)
pair_byte (suc m) (suc i) j xs h l =
    pair_byte m i j (drop 2 xs) (omega arith) l ∙ get_or-drop 2 xs (2 * i + j) 0 ∙ ap (λ n. slice_index_or xs n 0) (omega arith)

-- the i-th two bytes after the first two are the number of steps of curve i
pub pair_count : (bs : List ℕ) (m w i : ℕ) → i < m → 2 * i + 1 < w
    → slice_index (slice_index_or (first_chunks 2 m (take w (drop 2 bs))) i []) 0
    + slice_index (slice_index_or (first_chunks 2 m (take w (drop 2 bs))) i []) 1 * 256 ≡ step_count_lem bs i
pair_count bs m w i h l =
    let byte : (j n : ℕ) → j < 2 → 2 + (2 * i + j) ≡ n → slice_index_or (slice_index_or (first_chunks 2 m (take w (drop 2 bs))) i []) j 0 ≡ slice_index_or bs n 0 =
    λ j n b e. pair_byte m i j (take w (drop 2 bs)) h b ∙ get_or-take w (drop 2 bs) (2 * i + j) 0 (omega arith) ∙ get_or-drop 2 bs (2 * i + j) 0 ∙ ap (λ n. slice_index_or bs n 0) e in
    rw (byte 0 (2 + 2 * i) (omega arith) (omega arith), byte 1 (2 + 2 * i + 1) (omega arith) (omega arith))
