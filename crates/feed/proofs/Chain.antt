-- Curves that are judged one after another.
use Rattle.std.proofs.Common.{◌≡◌, ℕ, suc, ◌+◌, ◌-◌, ◌<◌, ◌≤◌, List, [], ◌∷◌, ◌++◌, map, length, take, set, Err, sym, ap, ◌∙◌, arith}
use Rattle.std.specs.List.{range_with_len}
use Rattle.std.proofs.lemmas.List.FromFn.{map-range_with_len_more}
use Rattle.std.proofs.lemmas.List.{take_all, take_more_set, map_push}
use Rattle.faults.specs.declared.fault.Fault.{Fault}
use Rattle.sums.specs.Verdict.{Verdict, accept, ◌then◌}
use Rattle.sums.proofs.Verdicts.{stop, pass}
use Rattle.curves.specs.declared.step.Step.{Step}
use Rattle.curves.specs.declared.curve.Curve.{Curve}
use Rattle.curves.specs.Steps.{curve_verdict}
use Rattle.curves.specs.Book.{steps_of}
use Rattle.feed.specs.CurveFile.{curves_verdict}

-- the curves from k on, of n, answer v, and the steps of curve k are ss
module _ (g : ℕ → List Step) (k n : ℕ) (ss : List Step) (v : Verdict Fault) (h : k < n) (s : ss ≡ g k) (inv : curves_verdict k (map g (range_with_len k (n - k))) ≡ v) where
  chain_step : (curve_verdict k (g k) then curves_verdict (k + 1) (map g (range_with_len (k + 1) (n - (k + 1))))) ≡ v
  chain_step = let e : n - k ≡ suc (n - (k + 1)) = omega arith in rw e at inv

  pub chain_bad : (f : Fault) → Err f ≡ curve_verdict k ss → Err f ≡ v
  chain_bad f e = sym (stop (curve_verdict k (g k)) _ f (sym (e ∙ ap (curve_verdict k) s))) ∙ chain_step

  pub chain_good : accept ≡ curve_verdict k ss → curves_verdict (k + 1) (map g (range_with_len (k + 1) (n - (k + 1)))) ≡ v
  chain_good e = sym (pass (curve_verdict k (g k)) _ (sym (e ∙ ap (curve_verdict k) s))) ∙ chain_step

-- no curve is left
pub chain_end : (g : ℕ → List Step) (k n : ℕ) (v : Verdict Fault) → n ≤ k → curves_verdict k (map g (range_with_len k (n - k))) ≡ v → accept ≡ v
chain_end g k n v h inv = let e : n - k ≡ 0 = omega arith in rw e at inv

-- one more curve is written
pub curve_written : (g : ℕ → List Step) (all : List Curve) (k : ℕ) (c : Curve) (ss : List Step) → k < length all → ss ≡ g k → steps_of c ≡ ss
    → map steps_of (take k all) ≡ map g (range_with_len 0 k) → map steps_of (take (k + 1) (set all k c)) ≡ map g (range_with_len 0 (k + 1))
curve_written g all k c ss h s e i =
    ap (map steps_of) (take_more_set all k c h)
    ∙ map_push steps_of (take k all) c
    ∙ ap (λ (ls : List (List Step)). ls ++ steps_of c ∷ []) i
    ∙ ap (λ (ys : List Step). map g (range_with_len 0 k) ++ ys ∷ []) (e ∙ s)
    ∙ sym (map-range_with_len_more g 0 k k (omega arith))

-- all n curves are written
pub curves_written : (g : ℕ → List Step) (n i : ℕ) (part : List Curve) → length part ≡ n → i ≡ n → map steps_of (take i part) ≡ map g (range_with_len 0 i)
    → map steps_of part ≡ map g (range_with_len 0 n)
curves_written g n i part l e k = ap (map steps_of) (sym (take_all n part (omega arith))) ∙ (rw e at k)
