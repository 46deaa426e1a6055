-- Whether shadow prices may be claimed: as many as the requirements, in range, and within their demand curves.
use Rattle.std.specs.Prelude.{ℕ, ◌<◌, ◌≤◌, Bool, ◌&&◌, List, length, ◌==◌, nat_le, slice_index}
use Rattle.faults.specs.declared.fault.Fault.{Fault}
use Rattle.faults.specs.declared.fault.Fault.TheVariants.{RequirementCount, PriceOrTargetOutOfRange, AboveDemandCurve}
use Rattle.sums.specs.Verdict.{Verdict, want, every, ◌then◌}
use Rattle.curves.specs.declared.step.Step.{Step}
use Rattle.curves.specs.Value.{value_at}
use Rattle.curves.specs.Book.{steps_at_lem}
use Rattle.maps.specs.Market.{Market}

abbrev pub most_shadow_price : ℕ
most_shadow_price = 100000

abbrev pub most_target : ℕ
most_target = 1000000

-- prices, targets and curves each number the requirements
abbrev pub counts_verdict : ℕ → ℕ → ℕ → ℕ → Verdict Fault
counts_verdict requirements prices targets curves =
    want (prices == requirements && (targets == requirements && curves == requirements)) (RequirementCount requirements)

-- the price and the target of requirement k are in range
abbrev pub claim_in_range : List ℕ → List ℕ → ℕ → Bool
claim_in_range shadow targets k = nat_le (slice_index shadow k) most_shadow_price && nat_le (slice_index targets k) most_target

-- what the curve of requirement k is worth at its target and its quantity q k
abbrev pub curve_value : List (List Step) → List ℕ → (ℕ → ℕ) → ℕ → ℕ
curve_value curves targets q k = value_at (steps_at_lem curves k) (slice_index targets k) (q k)

abbrev pub within_curve : List ℕ → List ℕ → List (List Step) → (ℕ → ℕ) → ℕ → Bool
within_curve shadow targets curves q k = nat_le (slice_index shadow k) (curve_value curves targets q k)

abbrev pub price_verdict : Market → List ℕ → List ℕ → List (List Step) → (ℕ → ℕ) → Verdict Fault
price_verdict m shadow targets curves q =
    counts_verdict m.requirements (length shadow) (length targets) (length curves)
    then every (claim_in_range shadow targets) PriceOrTargetOutOfRange 0 m.requirements
    then every (within_curve shadow targets curves q) AboveDemandCurve 0 m.requirements

-- no requirement is priced above its demand curve
abbrev pub WithinCurves : Market → List ℕ → List ℕ → List (List Step) → (ℕ → ℕ) → Type 0
WithinCurves m shadow targets curves q = (k : ℕ) → k < m.requirements → slice_index shadow k ≤ curve_value curves targets q k
