-- A curve book file that is written, and read back.
use Rattle.std.proofs.Common.{◌≡◌, ℕ, zero, suc, ◌+◌, ◌*◌, ◌<◌, ◌≤◌, true, leb, List, [], ◌∷◌, ◌++◌, map, length, get_or, take, Ok, sym, refl, ap, ◌∙◌, subst, add-one, arith}
use Rattle.std.specs.List.{range_with_len, AllByRecursion}
use Rattle.std.proofs.ByRecursion.{All-get_or, All-from_get_or, All-append}
use Rattle.std.proofs.lemmas.List.{append_assoc, length-append, take_all, take_at, get_or_default}
use Rattle.std.proofs.lemmas.Bool.{le-leb}
use Rattle.sums.specs.Verdict.{accept}
use Rattle.curves.specs.declared.step.Step.{Step}
use Rattle.curves.specs.Steps.{no_step, most_curves, IsCurve}
use Rattle.feed.specs.Numbers.{le16, le32}
use Rattle.feed.specs.CurveFile.{file_count, step_count_lem, first_step, file_steps, step_in, curve_steps, file_curves, file_verdict}
use Rattle.feed.proofs.Accepted.{file_law}
use Rattle.feed_writer.specs.Bytes.{bytes16, bytes32, written}
use Rattle.feed_writer.specs.Fitting.{Word, Short}
use Rattle.feed_writer.specs.CurveBytes.{all_steps, column_bytes, count_bytes, file_bytes, file_size, WroteFile}
use Rattle.feed_writer.specs.Lengths.{length_bytes16, length_bytes32}
use Rattle.feed_writer.proofs.Numbers.{back16, number_back, le16_left, le16_right, le32_left, le32_right, in_joined, in_joined16, by_places, by_places_from}
use Rattle.feed_writer.proofs.Steps.{steps_more, step_among, steps_within, length_column, length_counts}

short_back : (n : ℕ) → Short n → le16 (bytes16 n) 0 ≡ n
unfolding bytes16
short_back n h = back16 n h

-- ---- parts of the file
count_in : (cs : List (List Step)) (k : ℕ) → k < length cs → length (get_or cs k []) ≤ 8 → le16 (count_bytes cs) (2 * k) ≡ length (get_or cs k [])
unfolding count_bytes
count_in cs k h l =
    in_joined16 (λ ss. bytes16 (length ss)) 2 (λ ss. length_bytes16 (length ss)) cs k 0 (2 * k) [] h (omega arith) (omega arith)
    ∙ short_back (length (get_or cs k [])) (omega arith)

number_at : (c : Step → ℕ) (ss : List Step) (j : ℕ) → j < length ss → Word (c (get_or ss j no_step)) → le32 (column_bytes c ss) (4 * j) ≡ c (get_or ss j no_step)
unfolding column_bytes
number_at c ss j h w =
    in_joined (λ s. bytes32 (c s)) 4 (λ s. length_bytes32 (c s)) ss j 0 (4 * j) no_step h (omega arith) (omega arith)
    ∙ number_back (c (get_or ss j no_step)) w

-- the numbers of a curve's steps fit four bytes
abbrev Small : Step → Type 0
Small s = Word s.margin × Word s.price

curve_small : (ss : List Step) → IsCurve ss → AllByRecursion Small ss
curve_small ss h = All-from_get_or Small ss no_step (λ i l. (omega (arith, h.margins i l), omega (arith, (h.prices i l).1)))

all_small : (cs : List (List Step)) → ((k : ℕ) → k < length cs → IsCurve (get_or cs k [])) → AllByRecursion Small (all_steps cs)
all_small [] h = tt
all_small (ss ∷ cs) h = All-append Small ss (all_steps cs) (curve_small ss (h 0 (omega arith))) (all_small cs (λ k l. h (suc k) (omega arith)))

-- ---- the whole file
module _ (cs : List (List Step)) (few : length cs ≤ most_curves) (law : (k : ℕ) → k < length cs → IsCurve (get_or cs k [])) where
  pub length_file : length (file_bytes cs) ≡ file_size cs
  unfolding file_bytes
  length_file =
      simp length-append (omega (arith, length_bytes16 (length cs), length_counts cs, length_column (λ s. s.margin) (all_steps cs), length_column (λ s. s.price) (all_steps cs)))

  count_back : file_count (file_bytes cs) ≡ length cs
  unfolding file_bytes bytes16
  count_back = back16 (length cs) (omega arith)

  step_count_back : (k : ℕ) → k < length cs → step_count_lem (file_bytes cs) k ≡ length (get_or cs k [])
  unfolding file_bytes
  step_count_back k h =
      let C : List ℕ = bytes16 (length cs) in
      let K : List ℕ = count_bytes cs in
      let M : List ℕ = column_bytes (λ s. s.margin) (all_steps cs) in
      let P : List ℕ = column_bytes (λ s. s.price) (all_steps cs) in
      let e : C ++ K ++ M ++ P ≡ C ++ (K ++ (M ++ P)) = simp append_assoc in
      let few-steps : length (get_or cs k []) ≤ 8 = (law k h).few in
      ap (λ bs. le16 bs (2 + 2 * k)) e
      ∙ le16_right C (K ++ (M ++ P)) (2 + 2 * k) (2 * k) (omega (arith, length_bytes16 (length cs)))
      ∙ le16_left K (M ++ P) (2 * k) (omega (arith, length_counts cs))
      ∙ count_in cs k h few-steps

  first_back : (k : ℕ) → k ≤ length cs → first_step (file_bytes cs) k ≡ length (all_steps (take k cs))
  first_back zero h = refl
  first_back (suc k) h =
      let m = steps_more cs k (omega arith) in
      let q : length (all_steps (take (suc k) cs)) ≡ length (all_steps (take k cs)) + length (get_or cs k []) =
      ap (λ n. length (all_steps (take n cs))) (sym (add-one k)) ∙ ap length m ∙ length-append (all_steps (take k cs)) (get_or cs k []) in
      omega (arith, first_back k (omega arith), step_count_back k (omega arith))

  steps_back : file_steps (file_bytes cs) ≡ length (all_steps cs)
  steps_back =
      ap (first_step (file_bytes cs)) count_back ∙ first_back (length cs) (omega arith)
      ∙ ap (λ ds. length (all_steps ds)) (take_all (length cs) cs (omega arith))

  step_back : (j : ℕ) → j < length (all_steps cs) → step_in (file_bytes cs) j ≡ get_or (all_steps cs) j no_step
  unfolding file_bytes
  step_back j h =
      let n : ℕ = length cs in
      let ss : List Step = all_steps cs in
      let C : List ℕ = bytes16 n in
      let K : List ℕ = count_bytes cs in
      let M : List ℕ = column_bytes (λ s. s.margin) ss in
      let P : List ℕ = column_bytes (λ s. s.price) ss in
      let small : Small (get_or ss j no_step) = All-get_or Small ss j no_step h (all_small cs law) in
      let l2 : length (C ++ K) ≡ 2 + 2 * n = simp length-append (omega (arith, length_bytes16 n, length_counts cs)) in
      let l3 : length (C ++ K ++ M) ≡ 2 + 2 * n + 4 * length ss = simp length-append (omega (arith, length_bytes16 n, length_counts cs, length_column (λ s. s.margin) ss)) in
      let margin : le32 (C ++ K ++ M ++ P) (2 + 2 * n + 4 * j) ≡ (get_or ss j no_step).margin =
      ap (λ bs. le32 bs (2 + 2 * n + 4 * j)) (append_assoc (C ++ K) M P)
      ∙ le32_right (C ++ K) (M ++ P) (2 + 2 * n + 4 * j) (4 * j) (omega arith)
      ∙ le32_left M P (4 * j) (omega (arith, length_column (λ s. s.margin) ss))
      ∙ number_at (λ s. s.margin) ss j h small.0 in
      let price : le32 (C ++ K ++ M ++ P) (2 + 2 * n + 4 * length ss + 4 * j) ≡ (get_or ss j no_step).price =
      le32_right (C ++ K ++ M) P (2 + 2 * n + 4 * length ss + 4 * j) (4 * j) (omega arith)
      ∙ number_at (λ s. s.price) ss j h small.1 in
      rw (steps_back, count_back, margin, price)

  curve_back : (k : ℕ) → k < length cs → curve_steps (file_bytes cs) k ≡ get_or cs k []
  curve_back k h =
      let a : first_step (file_bytes cs) k ≡ length (all_steps (take k cs)) = first_back k (omega arith) in
      let m : step_count_lem (file_bytes cs) k ≡ length (get_or cs k []) = step_count_back k h in
      rw (a, m)
      (by_places_from (get_or cs k []) (step_in (file_bytes cs)) (length (all_steps (take k cs)))
      (λ d i l.
      step_back (length (all_steps (take k cs)) + i) (omega (arith, steps_within cs k h))
      ∙ step_among cs k h i no_step l ∙ get_or_default (get_or cs k []) i no_step d l))

  pub curves_back : file_curves (file_bytes cs) ≡ cs
  curves_back =
      ap (λ n. map (curve_steps (file_bytes cs)) (range_with_len 0 n)) count_back
      ∙ by_places cs (curve_steps (file_bytes cs)) (λ d k h. curve_back k h ∙ get_or_default cs k [] d h)

  pub file_accepted : 1 ≤ length cs → file_verdict (file_bytes cs) ≡ accept
  file_accepted some =
      let n = count_back in
      let s = steps_back in
      (file_law (file_bytes cs)).1 (record {
        some = omega arith;
        few = omega arith;
        long = omega (arith, length_file);
        sound = λ k h. let l : k < length cs = omega arith in subst IsCurve (sym (curve_back k l)) (law k l);
      })

  pub wrote_file : (n : ℕ) (before exit : List ℕ) → 1 ≤ length cs → n ≡ file_size cs → n ≤ length before → exit ≡ written 0 (file_bytes cs) before → WroteFile cs (Ok n) before exit
  unfolding written
  wrote_file n before exit some e room h =
      let r : leb (file_size cs) (length before) ≡ true = le-leb _ _ (omega arith) in
      let t : take n exit ≡ file_bytes cs = ap (take n) h ∙ take_at (file_bytes cs) _ n (omega (arith, length_file)) in
      record {
        reply = rw (r, e);
        holds = h;
        accepted = ap file_verdict t ∙ file_accepted some;
        reads = ap file_curves t ∙ curves_back;
      }
