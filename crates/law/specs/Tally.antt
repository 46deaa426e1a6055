-- The tally, a reckoning beside the ledger: of each step it is told the arguments and whether it was accepted.
use Rattle.std.specs.Prelude.{ℕ, Bool, true, false, List, [], ◌∷◌, ◌++◌, map, ℤ, pos, ◌+ℤ◌, ◌*ℤ◌}
use Rattle.sums.specs.Sums.{each}
use Rattle.maps.specs.Market.{Market}
use Rattle.market.specs.Products.{Reserves}
use Rattle.market.specs.Prices.{cost, cost_over_lem}
use Rattle.market.specs.Laws.{earned, earned_over}
use Rattle.law.specs.Ledger.{Args, enrol_supplier, enrol_customer, open_hour, clear, interval, close, void, hour_seconds, schedules}
use Rattle.law.specs.Run.{Fed}

-- an accepted interval: its seconds, shadow prices and real-time schedules
pub record Interval : Type 0 where
  pub seconds : ℕ
  pub shadow : List ℕ
  pub real : List Reserves

-- the hour in hand: not cleared, or cleared at shadow prices with day-ahead schedules; the latest interval stands first
pub data Hour : Type 0 where
  not_cleared : Hour
  cleared_at : (shadow : List ℕ) (ahead : List Reserves) (intervals : List Interval) → Hour

-- the suppliers' locations, the hour in hand, the cost of all closed hours, and what each supplier earned in them
pub record Tally : Type 0 where
  pub places : List ℕ
  pub hour : Hour
  pub total : ℤ
  pub earnings : List ℤ

-- ---- what the hour in hand costs, by requirement
abbrev pub intervals_cost : Market → List ℕ → List Reserves → List Interval → ℤ
intervals_cost m places ahead [] = pos 0
intervals_cost m places ahead (i ∷ is) =
    intervals_cost m places ahead is +ℤ cost_over_lem m i.shadow places i.real ahead *ℤ pos i.seconds

abbrev pub hour_cost : Market → List ℕ → Hour → ℤ
hour_cost m places not_cleared = pos 0
hour_cost m places (cleared_at shadow ahead is) =
    cost m shadow places ahead *ℤ pos hour_seconds +ℤ intervals_cost m places ahead is

-- ---- what each supplier's products earn in it
abbrev pub add : ℤ → ℤ → ℤ
add x y = x +ℤ y

abbrev pub for_seconds : ℕ → List ℤ → List ℤ
for_seconds n zs = map (λ z. z *ℤ pos n) zs

abbrev pub with_intervals : Market → List ℕ → List Reserves → List Interval → List ℤ → List ℤ
with_intervals m places ahead [] zs = zs
with_intervals m places ahead (i ∷ is) zs =
    each add (with_intervals m places ahead is zs) (for_seconds i.seconds (earned_over m i.shadow places i.real ahead))

abbrev pub hour_earned : Market → List ℕ → Hour → List ℤ
hour_earned m places not_cleared = map (λ l. pos 0) places
hour_earned m places (cleared_at shadow ahead is) =
    with_intervals m places ahead is (for_seconds hour_seconds (earned m shadow places ahead))

-- ---- one step
abbrev pub one_more : Hour → Interval → Hour
one_more not_cleared i = not_cleared
one_more (cleared_at shadow ahead is) i = cleared_at shadow ahead (i ∷ is)

abbrev pub with_hour_in_hand : Tally → Hour → Tally
with_hour_in_hand t h = record { places = t.places; hour = h; total = t.total; earnings = t.earnings }

abbrev pub after_accepted : Market → Tally → Args → Tally
after_accepted m t (enrol_supplier number location kind upper response) =
    record { places = t.places ++ (location ∷ []); hour = t.hour; total = t.total; earnings = t.earnings ++ (pos 0 ∷ []) }
after_accepted m t (enrol_customer number) = t
after_accepted m t (open_hour hour) = t
after_accepted m t (clear shadow targets curves rows) = with_hour_in_hand t (cleared_at shadow (schedules rows) [])
after_accepted m t (interval seconds shadow targets curves rows) =
    with_hour_in_hand t (one_more t.hour (record { seconds = seconds; shadow = shadow; real = schedules rows }))
after_accepted m t (close rows) = record {
  places = t.places;
  hour = not_cleared;
  total = t.total +ℤ hour_cost m t.places t.hour;
  earnings = each add t.earnings (hour_earned m t.places t.hour);
}
after_accepted m t void = with_hour_in_hand t not_cleared

-- a refused step changes nothing
abbrev pub fed : Market → Tally → Args → Bool → Tally
fed m t a true = after_accepted m t a
fed m t a false = t

abbrev pub tally : Market → List Fed → Tally
tally m [] = record { places = []; hour = not_cleared; total = pos 0; earnings = [] }
tally m (x ∷ log) = fed m (tally m log) x.args x.accepted
