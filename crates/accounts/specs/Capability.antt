-- What a supplier can be scheduled for.
use Rattle.std.specs.Prelude.{ℕ, ◌+◌, ◌*◌, min, Bool, ◌&&◌, ◌||◌, ℤ, pos, ◌+ℤ◌, neg_ℤ, ◌==◌, int_le, nat_le}
use Rattle.market.specs.Products.{Reserves}
use Rattle.accounts.specs.declared.supplier.Kind.{Kind}
use Rattle.accounts.specs.declared.supplier.Kind.TheVariants.{Synchronized, NotSynchronized}
use Rattle.accounts.specs.declared.supplier.Supplier.{Supplier}
use Rattle.accounts.specs.declared.schedule.ScheduleRow.{ScheduleRow}
use Rattle.accounts.specs.Enrolment.{most_tenths}

-- synchronized: no ten-minute reserve; spinning within ten minutes' response, thirty-minute within twenty's
abbrev pub synchronized_able : ℕ → ℕ → Reserves → Bool
synchronized_able upper response r =
    (r.ten == 0) && (nat_le r.spinning (min (10 * response) upper) && nat_le r.thirty (min (20 * response) upper))

-- not synchronized: no spinning reserve; ten-minute or thirty-minute, not both, within the upper limit
abbrev pub unsynchronized_able : ℕ → Reserves → Bool
unsynchronized_able upper r =
    (r.spinning == 0) && (nat_le r.ten upper && (nat_le r.thirty upper && (r.ten == 0 || r.thirty == 0)))

abbrev pub kind_able : Kind → ℕ → ℕ → Reserves → Bool
kind_able Synchronized upper response r = synchronized_able upper response r
kind_able NotSynchronized upper response r = unsynchronized_able upper r

abbrev pub energy_able : ℤ → Bool
energy_able z = int_le (neg_ℤ (pos most_tenths)) z && int_le z (pos most_tenths)

-- all that is scheduled together is within the upper limit
abbrev pub sum_able : ℕ → ScheduleRow → Bool
sum_able upper w = int_le (w.energy +ℤ pos (w.regulation + w.reserves.spinning + w.reserves.ten + w.reserves.thirty)) (pos upper)

abbrev pub able : Supplier → ScheduleRow → Bool
able a w = kind_able a.kind a.upper a.response w.reserves && (energy_able w.energy && sum_able a.upper w)
