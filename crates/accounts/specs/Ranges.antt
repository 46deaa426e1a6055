-- The ranges of an account.
use Rattle.std.specs.Prelude.{ℕ, Bool, ◌&&◌, ℤ, pos, neg_ℤ, int_le, nat_le}
use Rattle.market.specs.Products.{Reserves}
use Rattle.accounts.specs.declared.supplier.Supplier.{Supplier}
use Rattle.accounts.specs.declared.customer.Customer.{Customer}
use Rattle.accounts.specs.Enrolment.{most_tenths}

-- the furthest that cents, or the hour's grains, go from 0
abbrev pub most_amount : ℕ
most_amount = 4000000000000000000

abbrev pub amount_fits_lem : ℤ → Bool
amount_fits_lem z = int_le (neg_ℤ (pos most_amount)) z && int_le z (pos most_amount)

abbrev pub reserves_fit_lem : Reserves → Bool
reserves_fit_lem r = nat_le r.thirty most_tenths && (nat_le r.ten most_tenths && nat_le r.spinning most_tenths)

-- less than a cent is held, and the day-ahead schedule is in range
abbrev pub hour_fits_lem : Supplier → Bool
hour_fits_lem a = nat_le a.held 35999 && reserves_fit_lem a.ahead

abbrev pub limits_fit_lem : Supplier → Bool
limits_fit_lem a = nat_le a.upper most_tenths && nat_le a.response most_tenths

abbrev pub amounts_fit_lem : Supplier → Bool
amounts_fit_lem a = amount_fits_lem a.cents && amount_fits_lem a.hour

abbrev pub supplier_fits : Supplier → Bool
supplier_fits a = hour_fits_lem a && (limits_fit_lem a && amounts_fit_lem a)

abbrev pub customer_fits : Customer → Bool
customer_fits c = amount_fits_lem c.cents
