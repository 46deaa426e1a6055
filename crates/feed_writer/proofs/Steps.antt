-- The steps of all curves, curve by curve.
use Rattle.std.proofs.Common.{◌≡◌, ℕ, zero, suc, ◌+◌, ◌*◌, ◌<◌, ◌≤◌, List, [], ◌∷◌, ◌++◌, map, length, get_or, take, drop, sym, refl, ap, ◌∙◌, arith}
use Rattle.std.specs.List.{flat_map}
use Rattle.std.proofs.lemmas.List.{append_assoc, length-append, length-map, take_all, take_more, drop_more, take-append-drop, flat_map_more, get_or-map, get_or_append_left, get_or-append-add}
use Rattle.curves.specs.declared.step.Step.{Step}
use Rattle.curves.specs.declared.curve.Curve.{Curve}
use Rattle.curves.specs.Steps.{IsCurve}
use Rattle.curves.specs.Book.{steps_of}
use Rattle.curves.proofs.Judging.{held_curve}
use Rattle.feed_writer.specs.Bytes.{bytes16, bytes32}
use Rattle.feed_writer.specs.CurveBytes.{all_steps, column_bytes, count_bytes}
use Rattle.feed_writer.specs.Lengths.{length_bytes16, length_bytes32}
use Rattle.feed_writer.proofs.Buffers.{length_joined}

pub joined_append : {X A : Type 0} (f : X → List A) (xs ys : List X) → flat_map f (xs ++ ys) ≡ flat_map f xs ++ flat_map f ys
joined_append f [] ys = refl
joined_append f (x ∷ xs) ys = ap (λ zs. f x ++ zs) (joined_append f xs ys) ∙ sym (append_assoc (f x) (flat_map f xs) (flat_map f ys))

-- ---- one curve after another
module _ (cs : List (List Step)) (k : ℕ) (h : k < length cs) where
  pub steps_more : all_steps (take (k + 1) cs) ≡ all_steps (take k cs) ++ get_or cs k []
  steps_more = ap all_steps (take_more cs k [] h) ∙ sym (flat_map_more (λ ss. ss) [] (take k cs) (get_or cs k []))

  steps_split : all_steps cs ≡ all_steps (take k cs) ++ (get_or cs k [] ++ all_steps (drop (k + 1) cs))
  steps_split =
      ap all_steps (sym (take-append-drop k cs)) ∙ joined_append (λ ss. ss) (take k cs) (drop k cs)
      ∙ ap (λ ds. all_steps (take k cs) ++ all_steps ds) (drop_more cs k [] h)

  pub steps_within : length (all_steps (take k cs)) + length (get_or cs k []) ≤ length (all_steps cs)
  steps_within =
      omega (arith, ap length steps_split, length-append (all_steps (take k cs)) (get_or cs k [] ++ all_steps (drop (k + 1) cs)), length-append (get_or cs k []) (all_steps (drop (k + 1) cs)))

  -- step i of curve k among all steps
  pub step_among : (i : ℕ) (d : Step) → i < length (get_or cs k []) → get_or (all_steps cs) (length (all_steps (take k cs)) + i) d ≡ get_or (get_or cs k []) i d
  step_among i d l =
      ap (λ ss. get_or ss (length (all_steps (take k cs)) + i) d) steps_split
      ∙ get_or-append-add (all_steps (take k cs)) (get_or cs k [] ++ all_steps (drop (k + 1) cs)) i d
      ∙ get_or_append_left (get_or cs k []) (all_steps (drop (k + 1) cs)) d i l

-- ---- the curves of a book; ss are the steps of curve i
module _ (curves : List Curve) (i : ℕ) (c : Curve) (ss : List Step) (h : i < length curves) (e : c ≡ get_or curves i c) (v : ss ≡ steps_of c) where
  within : i < length (map steps_of curves)
  within = rw (length-map curves steps_of) h

  pub at_place : ss ≡ get_or (map steps_of curves) i []
  at_place = v ∙ ap steps_of e ∙ sym (get_or-map steps_of curves i c [] h)

  pub curve_more : all_steps (take (i + 1) (map steps_of curves)) ≡ all_steps (take i (map steps_of curves)) ++ ss
  curve_more = steps_more (map steps_of curves) i within ∙ ap (λ ts. all_steps (take i (map steps_of curves)) ++ ts) (sym at_place)

  pub curve_counted : length (all_steps (take (i + 1) (map steps_of curves))) ≡ length (all_steps (take i (map steps_of curves))) + length ss
  curve_counted = ap length curve_more ∙ length-append (all_steps (take i (map steps_of curves))) ss

  pub curve_within : length (all_steps (take i (map steps_of curves))) + length ss ≤ length (all_steps (map steps_of curves))
  curve_within = omega (arith, steps_within (map steps_of curves) i within, ap length at_place)

pub all_taken : (curves : List Curve) (i : ℕ) → length curves ≤ i → take i (map steps_of curves) ≡ map steps_of curves
all_taken curves i h = take_all i (map steps_of curves) (rw (length-map curves steps_of) h)

pub all_curves : (curves : List Curve) (i : ℕ) → i < length curves → IsCurve (get_or (map steps_of curves) i [])
all_curves [] i h = absurd (omega arith)
all_curves (c ∷ cs) zero h = held_curve (steps_of c) (steps_of c) refl c.sound
all_curves (c ∷ cs) (suc i) h = all_curves cs i (omega arith)

-- ---- columns
pub length_column : (number : Step → ℕ) (ss : List Step) → length (column_bytes number ss) ≡ 4 * length ss
unfolding column_bytes
length_column number ss = length_joined (λ s. bytes32 (number s)) 4 (λ s. length_bytes32 (number s)) ss

pub length_counts : (cs : List (List Step)) → length (count_bytes cs) ≡ 2 * length cs
unfolding count_bytes
length_counts cs = length_joined (λ ss. bytes16 (length ss)) 2 (λ ss. length_bytes16 (length ss)) cs

-- the counts, of curves
pub counts_of : (curves : List Curve) → flat_map (λ c. bytes16 (length (steps_of c))) curves ≡ count_bytes (map steps_of curves)
unfolding count_bytes
counts_of [] = refl
counts_of (c ∷ cs) = ap (λ bs. bytes16 (length (steps_of c)) ++ bs) (counts_of cs)
