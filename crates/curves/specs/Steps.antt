-- What the steps of a demand curve are like, and which of them is refused.
use Rattle.std.specs.Prelude.{◌≡◌, ℕ, zero, suc, ◌+◌, ◌<◌, ◌≤◌, Bool, true, ◌&&◌, ◌||◌, List, length, get_or, ◌==◌, nat_le, nat_lt, slice_index_or}
use Rattle.faults.specs.declared.fault.Fault.{Fault}
use Rattle.faults.specs.declared.fault.Fault.TheVariants.{CurveSteps}
use Rattle.sums.specs.Verdict.{Verdict, accept, every}
use Rattle.curves.specs.declared.step.Step.{Step}

-- the limits on a curve's steps, a step's margin and price, and a book's curves
abbrev pub most_steps : ℕ
most_steps = 8

abbrev pub most_margin : ℕ
most_margin = 1000000

abbrev pub most_price : ℕ
most_price = 100000

abbrev pub most_curves : ℕ
most_curves = 32

-- what stands past the last step of a list
abbrev pub no_step : Step
no_step = record { margin = 0; price = 0 }

-- ---- the judgement

-- the step's own numbers are allowed
abbrev pub in_range_lem : Step → Bool
in_range_lem s = nat_le s.margin most_margin && (nat_le 1 s.price && nat_le s.price most_price)

-- step i is the first, or below the one before it in margin and in price
abbrev pub falls : List Step → ℕ → Bool
falls ss zero = true
falls ss (suc i) =
    nat_lt (get_or ss (suc i) no_step).margin (get_or ss i no_step).margin
    && nat_lt (get_or ss (suc i) no_step).price (get_or ss i no_step).price

-- step i is one of eight, in range, below the one before, and of margin 0 if it is the last
abbrev pub step_ok : List Step → ℕ → Bool
step_ok ss i =
    nat_lt i most_steps
    && (in_range_lem (slice_index_or ss i no_step) && (falls ss i && (nat_lt (i + 1) (length ss) || (get_or ss i no_step).margin == 0)))

-- whether the steps make curve number c of a book; if not, the first wrong step is told
abbrev pub curve_verdict : ℕ → List Step → Verdict Fault
curve_verdict c ss = every (step_ok ss) (CurveSteps c) 0 (length ss)

-- ---- what a curve is, in the subject's own words

pub record IsCurve (ss : List Step) : Type 0 where
  pub few : length ss ≤ most_steps
  pub margins : (i : ℕ) → i < length ss → (get_or ss i no_step).margin ≤ most_margin
  pub prices : (i : ℕ) → i < length ss → (1 ≤ (get_or ss i no_step).price) × ((get_or ss i no_step).price ≤ most_price)
  pub margins_fall : (i : ℕ) → i + 1 < length ss → (get_or ss (i + 1) no_step).margin < (get_or ss i no_step).margin
  pub prices_fall : (i : ℕ) → i + 1 < length ss → (get_or ss (i + 1) no_step).price < (get_or ss i no_step).price
  pub ends : (i : ℕ) → i + 1 ≡ length ss → (get_or ss i no_step).margin ≡ 0

-- exactly the curves are accepted, whatever their number
abbrev pub JudgedLaw : Type 0
JudgedLaw = (c : ℕ) (ss : List Step) → (curve_verdict c ss ≡ accept → IsCurve ss) × (IsCurve ss → curve_verdict c ss ≡ accept)
