-- What a call posts to an account.
use Rattle.std.specs.Prelude.{ℕ, Bool, ◌&&◌, List, ℤ, pos, ◌+ℤ◌, ◌*ℤ◌}
use Rattle.sharing.specs.Shares.{whole, rest}
use Rattle.maps.specs.Market.{Market}
use Rattle.market.specs.Products.{Reserves}
use Rattle.market.specs.Prices.{none_reserved, worth, amounts, over}
use Rattle.accounts.specs.declared.supplier.Supplier.{Supplier}
use Rattle.accounts.specs.declared.customer.Customer.{Customer}
use Rattle.accounts.specs.declared.schedule.ScheduleRow.{ScheduleRow}
use Rattle.accounts.specs.Ranges.{supplier_fits, customer_fits}

-- the account with other grains and another day-ahead schedule for the hour in hand
abbrev pub with_hour_lem : Supplier → ℤ → Reserves → Supplier
with_hour_lem a grains r = record {
  number = a.number;
  location = a.location;
  kind = a.kind;
  upper = a.upper;
  response = a.response;
  cents = a.cents;
  held = a.held;
  hour = grains;
  ahead = r;
}

-- a clearing pays the day-ahead schedule for the whole hour, and keeps it
abbrev pub post_clearing : Market → List ℕ → Supplier → Reserves → Supplier
post_clearing m shadow a r = with_hour_lem a (a.hour +ℤ worth m shadow a.location (amounts r) *ℤ pos 3600) r

-- an interval pays, for its seconds, by how much real time differs from day ahead
abbrev pub post_interval : Market → List ℕ → ℕ → Supplier → Reserves → Supplier
post_interval m shadow seconds a r =
    with_hour_lem a (a.hour +ℤ worth m shadow a.location (over r a.ahead) *ℤ pos seconds) a.ahead

-- closing: the hour's grains join those held, and whole cents are paid
abbrev pub settle : Supplier → Supplier
settle a = record {
  number = a.number;
  location = a.location;
  kind = a.kind;
  upper = a.upper;
  response = a.response;
  cents = a.cents +ℤ whole (pos a.held +ℤ a.hour);
  held = rest (pos a.held +ℤ a.hour);
  hour = pos 0;
  ahead = none_reserved;
}

-- voiding: the hour is forgotten
abbrev pub forget : Supplier → Supplier
forget a = with_hour_lem a (pos 0) none_reserved

abbrev pub charge : Customer → ℤ → Customer
charge c share = record { number = c.number; cents = c.cents +ℤ share }

-- the account is in its ranges, and the posting leaves it there
abbrev pub stays : (Supplier → Reserves → Supplier) → Supplier → ScheduleRow → Bool
stays post a w = supplier_fits a && supplier_fits (post a w.reserves)

abbrev pub settles : Supplier → Bool
settles a = supplier_fits a && supplier_fits (settle a)

abbrev pub chargeable : Customer → ℤ → Bool
chargeable c share = customer_fits c && customer_fits (charge c share)
