-- What a clearing or an interval is going to post.
use Rattle.std.specs.Prelude.{◌≡◌, ℕ, ◌*◌, ◌^◌, ◌≤◌, List, length, ℤ, pos, ◌*ℤ◌, sum_by, slice_index, unsigned_abs}
use Rattle.sums.specs.Sums.{upto}
use Rattle.maps.specs.Market.{Market}
use Rattle.market.specs.Products.{Reserves}
use Rattle.market.specs.Prices.{quantity, cost as costs, cost_over_lem}
use Rattle.accounts.specs.declared.supplier.Supplier.{Supplier}
use Rattle.accounts.specs.declared.schedule.ScheduleRow.{ScheduleRow}
use Rattle.accounts.specs.declared.posting.Timing.{Timing}
use Rattle.accounts.specs.declared.posting.Timing.TheVariants.{DayAhead, RealTime}
use Rattle.accounts.specs.Posting.{post_clearing, post_interval}
use Rattle.accounts.specs.Terms.{post_by}
use Rattle.law.specs.Ledger.{hour_seconds, places, aheads, schedules}
use Rattle.planning.specs.declared.plan.Plan.{Plan}

-- the most that the requirements cost in one second, in grains: 32 requirements at 100,000 cents, and 128 suppliers
-- with 90,000 tenths each
abbrev pub most_cost : ℕ
most_cost = 36864000000000

-- what quantities cost in one second
abbrev pub cost_at : (shadow quantities : List ℕ) → ℕ
cost_at shadow quantities = sum_by (λ k. slice_index shadow k * slice_index quantities k) (upto (length shadow))

-- a table of quantities, and a shadow price for each requirement
pub record Weighed (m : Market) (xs : List Supplier) (shadow : List ℕ) (rows : List ScheduleRow) (qs : List ℕ) : Type 0 where
  pub priced : length shadow ≡ m.requirements
  pub long : length qs ≡ 32
  pub value : (k : ℕ) → slice_index qs k ≡ quantity m (places xs) (schedules rows) k
  pub low : (k : ℕ) → slice_index qs k ≤ 48 * (2 ^ 32 * length xs)

-- the plan posts so to every account, and costs so much in one second, for so many seconds
pub record Planned (post : Supplier → Reserves → Supplier) (second_cost : ℤ) (seconds : ℕ) (p : Plan) : Type 0 where
  pub posts : (a : Supplier) (r : Reserves) → post_by p.terms a r ≡ post a r
  pub cost : p.cost ≡ second_cost *ℤ pos seconds
  pub bound : unsigned_abs p.cost ≤ most_cost * seconds

-- the plan pays the schedule for the whole hour
abbrev pub PlannedClearing : Market → List Supplier → (shadow : List ℕ) → List ScheduleRow → Plan → Type 0
PlannedClearing m xs shadow rows p = Planned (post_clearing m shadow) (costs m shadow (places xs) (schedules rows)) hour_seconds p

-- the plan pays, for the seconds, by how much real time differs from day ahead
abbrev pub PlannedInterval : Market → List Supplier → (seconds : ℕ) (shadow : List ℕ) → List ScheduleRow → Plan → Type 0
PlannedInterval m xs seconds shadow rows p = Planned (post_interval m shadow seconds) (cost_over_lem m shadow (places xs) (schedules rows) (aheads xs)) seconds p

-- what is posted to an account day ahead, for the whole hour, or else in real time
abbrev pub post_at : Market → (shadow : List ℕ) (seconds : ℕ) → Timing → Supplier → Reserves → Supplier
post_at m shadow seconds DayAhead = post_clearing m shadow
post_at m shadow seconds RealTime = post_interval m shadow seconds

-- what is paid already in one second, and what the schedule costs beyond that
abbrev pub paid_already : Market → List Supplier → (shadow : List ℕ) → Timing → ℤ
paid_already m xs shadow DayAhead = pos 0
paid_already m xs shadow RealTime = costs m shadow (places xs) (aheads xs)

abbrev pub cost_in_second : Market → List Supplier → (shadow : List ℕ) → List ScheduleRow → Timing → ℤ
cost_in_second m xs shadow rows DayAhead = costs m shadow (places xs) (schedules rows)
cost_in_second m xs shadow rows RealTime = cost_over_lem m shadow (places xs) (schedules rows) (aheads xs)
