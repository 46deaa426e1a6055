-- The check of prices as a chain, and what accepted prices show.
use Rattle.std.proofs.Common.{◌≡◌, ℕ, ◌<◌, ◌≤◌, Bool, true, false, List, length, get_or, IfOk, MatchOption, None, Some, Ok, Err, sym, ap, ◌∙◌, arith}
use Rattle.std.specs.declared.option.Option.{Option}
use Rattle.std.proofs.lemmas.Bool.{leb-true}
use Rattle.std.proofs.lemmas.Option.{MatchOption-at_some, MatchOption-at_none}
use Rattle.faults.specs.declared.fault.Fault.{Fault}
use Rattle.faults.specs.declared.fault.Fault.TheVariants.{AboveDemandCurve, PriceOrTargetOutOfRange}
use Rattle.sums.specs.Verdict.{Verdict, accept, every, ◌then◌}
use Rattle.sums.proofs.Verdicts.{both, pass, every_held, first_failure_told}
use Rattle.curves.specs.declared.step.Step.{Step}
use Rattle.maps.specs.Market.{Market}
use Rattle.market.specs.Claims.{counts_verdict, claim_in_range, price_verdict, within_curve, curve_value, WithinCurves}

-- what a search for the first number below n that fails makes of a check of them
module _ {F : Type 0} (ok : ℕ → Bool) (f : ℕ → F) (n : ℕ) where
  pub none_failing : (r : Option ℕ) → r ≡ None → MatchOption r ((k : ℕ) → 0 ≤ k → k < n → ok k ≡ true) (λ i. (0 ≤ i) × (i < n) × (ok i ≡ false) × ((k : ℕ) → 0 ≤ k → k < i → ok k ≡ true)) → accept ≡ every ok f 0 n
  none_failing r e h = sym ((first_failure_told F ok f n).0 (λ k l. MatchOption-at_none _ _ e h k (omega arith) l))

  pub first_failing : (r : Option ℕ) (i : ℕ) → r ≡ Some i → MatchOption r ((k : ℕ) → 0 ≤ k → k < n → ok k ≡ true) (λ i. (0 ≤ i) × (i < n) × (ok i ≡ false) × ((k : ℕ) → 0 ≤ k → k < i → ok k ≡ true)) → Err (f i) ≡ every ok f 0 n
  first_failing r i e h = let w = MatchOption-at_some _ _ i e h in sym ((first_failure_told F ok f n).1 i w.1 (λ k l. w.3 k (omega arith) l) w.2)

module _ (m : Market) (sp ts : List ℕ) (cs : List (List Step)) (q : ℕ → ℕ) where
  abbrev counted : Verdict Fault
  counted = counts_verdict m.requirements (length sp) (length ts) (length cs)

  abbrev ranged : Verdict Fault
  ranged = every (claim_in_range sp ts) PriceOrTargetOutOfRange 0 m.requirements

  abbrev curved : Verdict Fault
  curved = every (within_curve sp ts cs q) AboveDemandCurve 0 m.requirements

  -- the three checks, one after another, where the map has n requirements and the book c curves
  pub chained : (n c : ℕ) (r : Verdict Fault) → n ≡ m.requirements → c ≡ length cs
      → accept ≡ counts_verdict n (length sp) (length ts) c → accept ≡ every (claim_in_range sp ts) PriceOrTargetOutOfRange 0 n
      → r ≡ every (within_curve sp ts cs q) AboveDemandCurve 0 n → r ≡ price_verdict m sp ts cs q
  chained n c r en ec a b e =
      let a' : counted ≡ accept = sym (a ∙ ap (λ (k : ℕ). counts_verdict k (length sp) (length ts) c) en ∙ ap (counts_verdict m.requirements (length sp) (length ts)) ec) in
      let b' : ranged ≡ accept = sym (b ∙ ap (every (claim_in_range sp ts) PriceOrTargetOutOfRange 0) en) in
      let e' : r ≡ curved = e ∙ ap (every (within_curve sp ts cs q) AboveDemandCurve 0) en in
      e' ∙ sym (pass counted (ranged then curved) a' ∙ pass ranged curved b')

  pub within_curves : price_verdict m sp ts cs q ≡ accept → WithinCurves m sp ts cs q
  within_curves e k l =
      let a : (counted ≡ accept) × ((ranged then curved) ≡ accept) = both counted (ranged then curved) e in
      let b : (ranged ≡ accept) × (curved ≡ accept) = both ranged curved a.1 in
      leb-true (get_or sp k 0) (curve_value cs ts q k) (every_held (within_curve sp ts cs q) AboveDemandCurve 0 m.requirements b.1 k (omega arith) (omega arith))

  pub made_within : (r : Verdict Fault) → r ≡ price_verdict m sp ts cs q → IfOk r (λ _. WithinCurves m sp ts cs q)
  made_within (Ok u) e = within_curves (sym e)
  made_within (Err f) e = tt
