-- Steps and runs: each call finds the ledger and the books as the one before left them.
use Rattle.std.specs.Prelude.{◌≡◌, ℕ, Bool, List, [], ◌∷◌, Ok, Err}
use Rattle.faults.specs.declared.fault.Fault.{Fault}
use Rattle.sums.specs.Verdict.{Verdict, accepts}
use Rattle.maps.specs.Market.{Market}
use Rattle.sharing.specs.Rule.{Rule}
use Rattle.law.specs.Ledger.{State, Args, new, after}
use Rattle.law.specs.Verdicts.{verdict}

-- a refusal alters nothing
abbrev pub leaves : Market → Rule → State → Args → Verdict Fault → State
leaves m r s a (Ok u) = after m r s a
leaves m r s a (Err f) = s

-- a call answers v and turns s into s'
pub record Step (m : Market) (r : Rule) (s : State) (a : Args) (v : Verdict Fault) (s' : State) : Type 0 where
  pub answer : v ≡ verdict m r s a
  pub left : s' ≡ leaves m r s a (verdict m r s a)

-- what is told of a step to those who see neither ledger nor books
pub record Fed : Type 0 where
  pub args : Args
  pub accepted : Bool

-- any steps from a new ledger on, accepted or refused; the latest stands first
pub data Run (m : Market) (r : Rule) : List Fed → State → Type 0 where
  fresh : {a b : ℕ} → Run m r [] (new a b)
  more : {log : List Fed} {s s' : State} {a : Args} {v : Verdict Fault}
      → Run m r log s → Step m r s a v s' → Run m r (record { args = a; accepted = accepts v } ∷ log) s'
