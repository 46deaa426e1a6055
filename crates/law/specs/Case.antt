-- A worked hour: one supplier at West, one customer, a clearing and one interval.
use Rattle.std.specs.Prelude.{◌≡◌, ℕ, true, List, [], ◌∷◌, map, replicate, pos}
use Rattle.sums.specs.Verdict.{accepts}
use Rattle.maps.specs.Market.{Market}
use Rattle.maps.specs.Fixed.{fixed_market}
use Rattle.curves.specs.declared.step.Step.{Step as CurveStep}
use Rattle.sharing.specs.Rule.{Rule, running}
use Rattle.accounts.specs.declared.schedule.ScheduleRow.{ScheduleRow}
use Rattle.accounts.specs.declared.withdrawal.WithdrawalRow.{WithdrawalRow}
use Rattle.law.specs.Ledger.{State, Args, new, enrol_supplier, enrol_customer, open_hour, clear, interval, close, nets}
use Rattle.law.specs.Verdicts.{verdict}
use Rattle.law.specs.Run.{leaves, Fed, Run}

-- ---- any calls, one after another: what they leave, and what is told of them
abbrev pub ends : Market → Rule → State → List Args → State
ends m r s [] = s
ends m r s (a ∷ calls) = ends m r (leaves m r s a (verdict m r s a)) calls

abbrev pub logged : Market → Rule → State → List Args → List Fed → List Fed
logged m r s [] log = log
logged m r s (a ∷ calls) log =
    logged m r (leaves m r s a (verdict m r s a)) calls (record { args = a; accepted = accepts (verdict m r s a) } ∷ log)

-- ---- the case
abbrev pub total_thirty : List CurveStep
total_thirty =
    record { margin = 9550; price = 75000 }
    ∷ record { margin = 6550; price = 20000 }
    ∷ record { margin = 3000; price = 10000 }
    ∷ record { margin = 0; price = 2500 }
    ∷ []

abbrev pub curves : List (List CurveStep)
curves = total_thirty ∷ replicate 14 []

-- SP1 alone
abbrev pub first_only : ℕ → List ℕ
first_only n = n ∷ replicate 14 0

abbrev pub thirty : ℕ → List ScheduleRow
thirty tenths = record { number = 7; energy = pos 0; regulation = 0; reserves = record { thirty = tenths; ten = 0; spinning = 0 } } ∷ []

abbrev pub withdrawn : List WithdrawalRow
withdrawn = record { number = 9; gross = 60; station = 7; exports = 3 } ∷ []

abbrev pub calls : List Args
calls =
    enrol_supplier 7 0 1 1000 10
    ∷ enrol_customer 9
    ∷ open_hour 5
    ∷ clear (first_only 300) (first_only 100) curves (thirty 100)
    ∷ interval 3600 (first_only 400) (first_only 100) curves (thirty 90)
    ∷ close withdrawn
    ∷ []

abbrev pub end : State
end = ends fixed_market running (new 1 1) calls

abbrev pub log : List Fed
log = logged fixed_market running (new 1 1) calls []

-- all calls are accepted: 300 x 100 tenths and 400 x (90 - 100) tenths, for an hour each, are 2,600 cents
pub record WorkedCase : Type 0 where
  pub is_run : Run fixed_market running log end
  pub taken : map (λ x. x.accepted) log ≡ replicate 6 true
  pub net : nets withdrawn ≡ 50 ∷ []
  pub paid : map (λ a. a.cents) end.suppliers ≡ pos 2600 ∷ []
  pub held : map (λ a. a.held) end.suppliers ≡ 0 ∷ []
  pub charged : map (λ c. c.cents) end.customers ≡ pos 2600 ∷ []
  pub carried : end.carry ≡ pos 0
