-- Worked figures of the rules for one account.
use Rattle.std.specs.Prelude.{◌≡◌, ℕ, true, false, [], ◌∷◌, pos, negsuc}
use Rattle.market.specs.Products.{Reserves}
use Rattle.accounts.specs.declared.supplier.Supplier.{Supplier}
use Rattle.accounts.specs.declared.schedule.ScheduleRow.{ScheduleRow}
use Rattle.accounts.specs.declared.posting.Terms.{Terms}
use Rattle.accounts.specs.declared.posting.Timing.TheVariants.{RealTime}
use Rattle.accounts.specs.Capability.{able}
use Rattle.accounts.specs.Enrolment.{new_supplier}
use Rattle.accounts.specs.Posting.{with_hour_lem, settle}
use Rattle.accounts.specs.Terms.{post_by}

abbrev reserved : ℕ → ℕ → ℕ → Reserves
reserved thirty ten spinning = record { thirty = thirty; ten = ten; spinning = spinning }

abbrev row : Reserves → ScheduleRow
row r = record { number = 7; energy = pos 0; regulation = 0; reserves = r }

-- an interval of 300 seconds with spinning at 650 in location 0
abbrev interval : Terms
interval = record { prices = record { thirty = 0; ten = 0; spinning = 650 } ∷ []; seconds = 300; timing = RealTime }

-- 120 tenths of spinning day ahead, and 100 in real time
abbrev in_real_time : Supplier
in_real_time = post_by interval (with_hour_lem (new_supplier 7 0 1 1000 5) (pos 0) (reserved 0 0 120)) (reserved 0 0 100)

pub record AccountFigures : Type 0 where
  -- 20 tenths less cost 3,900,000 grains: -109 cents, and 24,000 grains are held
  pub grains : in_real_time.hour ≡ negsuc 3899999
  pub cents : (settle in_real_time).cents ≡ negsuc 108
  pub held : (settle in_real_time).held ≡ 24000
  -- synchronized, upper limit 1,000, response 5: up to 50 tenths of spinning
  pub ten_minutes : able (new_supplier 7 0 1 1000 5) (row (reserved 0 0 50)) ≡ true
  pub too_much : able (new_supplier 7 0 1 1000 5) (row (reserved 0 0 51)) ≡ false
  -- not synchronized: not both ten-minute and thirty-minute reserve
  pub either : able (new_supplier 7 0 2 30000 30000) (row (reserved 10 0 0)) ≡ true
  pub not_both : able (new_supplier 7 0 2 30000 30000) (row (reserved 10 10 0)) ≡ false
