use Rattle.std.proofs.Common.{◌≡◌, ℕ, ◌+◌, ◌*◌, ◌<◌, ◌≤◌, List, [], map, length, get_or, Ok, sym, ap, ◌∙◌, subst, arith}
use Rattle.std.proofs.lemmas.List.{length-append, length-map}
use Rattle.curves.specs.declared.step.Step.{Step}
use Rattle.curves.specs.Steps.{most_curves, IsCurve}
use Rattle.curves.specs.Book.{steps_of}
use Rattle.feed_writer.specs.Bytes.{bytes16, written}
use Rattle.feed_writer.specs.CurveBytes.{all_steps, column_bytes, file_bytes, WroteFile}
use Rattle.feed_writer.specs.Lengths.{length_bytes16}
use Rattle.feed_writer.proofs.Buffers.{follows}
use Rattle.feed_writer.proofs.Steps.{counts_of, all_curves, length_column, length_counts}
use Rattle.feed_writer.proofs.FileTrips.{wrote_file}
use Rattle.feed_writer.proofs.curve_file.write_curve_book.Goals as goal

pub returns : goal.returns
unfolding file_bytes column_bytes
returns c =
    let curves = c.curves-curves.result.now in
    let cs : List (List Step) = map steps_of curves in
    let n : length cs ≡ length curves = length-map curves steps_of in
    let few : length cs ≤ most_curves = omega (arith, c.curves-curves.ensures.few) in
    let law : (k : ℕ) → k < length cs → IsCurve (get_or cs k []) = λ k l. all_curves curves k (omega arith) in
    let a = length_bytes16 (length cs) in
    let b = length_counts cs in
    let d = length_column (λ s. s.margin) (all_steps cs) in
    let e = length_column (λ s. s.price) (all_steps cs) in
    let s = c.count_steps-steps.ensures.value in
    let needed : ℕ = 2 + 2 * length curves + 8 * c.count_steps-steps.result in
    let first = c.put.ensures ∙ ap (λ (k : ℕ). written 0 (bytes16 k) c.args.buffer.now) (sym n) in
    let P : List (List Step) → Type 0 = λ ds. WroteFile ds (Ok needed) c.args.buffer.now c.put_column.new.out in
    subst P c.curves-curves.ensures.value
    (wrote_file cs few law needed c.args.buffer.now c.put_column.new.out (omega (arith, c.curves-curves.ensures.some)) (omega arith) (omega arith)
    (follows _ _ _ _ _ _ _ (follows _ _ _ _ _ _ _ (follows _ _ _ _ _ _ _ first
    (c.put_each-margins.ensures.holds ∙ ap (λ (bs : List ℕ). written 2 bs c.put.new.out) (counts_of curves)) (omega arith) (omega arith))
    c.put_column-prices.ensures.holds (simp length-append (omega arith)) (omega arith))
    c.put_column.ensures.holds (simp length-append (omega arith)) (omega arith)))
