-- The law that every run keeps.
use Rattle.std.specs.Prelude.{◌≡◌, ℕ, ◌*◌, ◌≤◌, Bool, true, false, ◌&&◌, ◌||◌, List, [], ◌∷◌, map, length, ℤ, pos, ◌+ℤ◌, ◌*ℤ◌, ◌≤ℤ◌, ◌<ℤ◌}
use Rattle.sums.specs.Sums.{sum_z, each}
use Rattle.sums.specs.Verdict.{accept}
use Rattle.maps.specs.Market.{Market, MapLaw}
use Rattle.curves.specs.declared.step.Step.{Step as CurveStep}
use Rattle.market.specs.Products.{Reserves}
use Rattle.market.specs.Prices.{quantity}
use Rattle.market.specs.Claims.{WithinCurves}
use Rattle.market.specs.Laws.{BetterNeverCheaper}
use Rattle.sharing.specs.Rule.{Rule, Fair}
use Rattle.sharing.specs.Shares.{grains_per_cent, shared, WellShared}
use Rattle.accounts.specs.declared.supplier.Supplier.{Supplier}
use Rattle.accounts.specs.declared.withdrawal.WithdrawalRow.{WithdrawalRow}
use Rattle.law.specs.Ledger.{State, Args, enrol_supplier, enrol_customer, open_hour, clear, interval, close, void, hour_seconds, schedules, nets}
use Rattle.law.specs.Run.{Step, Fed, Run}
use Rattle.law.specs.Tally.{Tally, tally, hour_cost, add}

-- ---- what is paid is what is charged
-- the grains paid to a supplier or held for it
abbrev pub owed : Supplier → ℤ
owed a = pos grains_per_cent *ℤ a.cents +ℤ pos a.held

-- the grains paid to all suppliers or held for them
abbrev pub paid : State → ℤ
paid s = pos grains_per_cent *ℤ sum_z (λ a. a.cents) s.suppliers +ℤ sum_z (λ a. pos a.held) s.suppliers

-- the grains charged to all customers or carried on
abbrev pub charged : State → ℤ
charged s = pos grains_per_cent *ℤ sum_z (λ c. c.cents) s.customers +ℤ s.carry

pub record Balanced (t : Tally) (s : State) : Type 0 where
  pub both : paid s ≡ charged s
  pub total : charged s ≡ t.total
  pub own : map owed s.suppliers ≡ t.earnings

-- ---- the hour in hand: the suppliers' grains make its cost, which the tally reckons too, and it is not past its end
pub record InHand (m : Market) (t : Tally) (s : State) : Type 0 where
  pub earned : sum_z (λ a. a.hour) s.suppliers ≡ s.cost
  pub reckoned : s.cost ≡ hour_cost m t.places t.hour
  pub timed : s.seconds ≤ hour_seconds

-- ---- the carry
abbrev pub is_close : Args → Bool
is_close (enrol_supplier number location kind upper response) = false
is_close (enrol_customer number) = false
is_close (open_hour hour) = false
is_close (clear shadow targets curves rows) = false
is_close (interval seconds shadow targets curves rows) = false
is_close (close rows) = true
is_close void = false

-- whether a closing was accepted yet
abbrev pub any_closed : List Fed → Bool
any_closed [] = false
any_closed (x ∷ log) = (x.accepted && is_close x.args) || any_closed log

-- 0 until the first closing, and then from 0 to below a cent for each customer
pub record Carried (closed : Bool) (s : State) : Type 0 where
  pub none_yet : closed ≡ false → s.carry ≡ pos 0
  pub not_negative : closed ≡ true → pos 0 ≤ℤ s.carry
  pub below_a_cent_each : closed ≡ true → s.carry <ℤ (pos (grains_per_cent * length s.customers))

-- ---- what an accepted step owes
-- a clearing or an interval: no shadow price above its curve at the schedule's quantities, and better reserve never cheaper
pub record Priced (m : Market) (places shadow targets : List ℕ) (curves : List (List CurveStep)) (rs : List Reserves) : Type 0 where
  pub within : WithinCurves m shadow targets curves (quantity m places rs)
  pub better : BetterNeverCheaper m

-- the grains that the hour in hand leaves to be charged, as the tally reckons them
abbrev pub grains_of : Market → Tally → State → ℤ
grains_of m t s = hour_cost m t.places t.hour +ℤ s.carry

-- a closing: the hour's cents are shared by the rule among the net withdrawals, each share rounded down or up
pub record Shared (m : Market) (r : Rule) (t : Tally) (s : State) (rows : List WithdrawalRow) (s' : State) : Type 0 where
  pub by_rule : map (λ c. c.cents) s'.customers ≡ each add (map (λ c. c.cents) s.customers) (shared r (grains_of m t s) (nets rows))
  pub well_shared : WellShared (grains_of m t s) (nets rows) (shared r (grains_of m t s) (nets rows)) s'.carry

abbrev pub Lawful : Market → Rule → Tally → State → Args → State → Type 0
Lawful m r t s (enrol_supplier number location kind upper response) s' = Unit {0}
Lawful m r t s (enrol_customer number) s' = Unit {0}
Lawful m r t s (open_hour hour) s' = Unit {0}
Lawful m r t s (clear shadow targets curves rows) s' = Priced m t.places shadow targets curves (schedules rows)
Lawful m r t s (interval seconds shadow targets curves rows) s' = Priced m t.places shadow targets curves (schedules rows)
Lawful m r t s (close rows) s' = Shared m r t s rows s'
Lawful m r t s void s' = Unit {0}

-- ---- the law, after the steps of a log
pub record Kept (m : Market) (r : Rule) (log : List Fed) (s : State) : Type 0 where
  pub balanced : Balanced (tally m log) s
  pub in_hand : InHand m (tally m log) s
  pub carried : Carried (any_closed log) s
  -- every next step that is accepted; so every accepted step of a run, since it is next after those before it
  pub next : (a : Args) (s' : State) → Step m r s a accept s' → Lawful m r (tally m log) s a s'

-- under every map and every rule
abbrev pub RunsKeep : Market → Rule → Type 0
RunsKeep m r = MapLaw m → Fair r → (log : List Fed) (s : State) → Run m r log s → Kept m r log s
