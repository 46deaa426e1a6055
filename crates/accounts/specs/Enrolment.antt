-- New accounts.
use Rattle.std.specs.Prelude.{ℕ, cond, ◌||◌, pos, ◌==◌, nat_le, nat_lt}
use Rattle.faults.specs.declared.fault.Fault.{Fault}
use Rattle.faults.specs.declared.fault.Fault.TheVariants.{FieldOutOfRange}
use Rattle.sums.specs.Verdict.{Verdict, want, ◌then◌}
use Rattle.market.specs.Prices.{none_reserved}
use Rattle.accounts.specs.declared.supplier.Kind.{Kind}
use Rattle.accounts.specs.declared.supplier.Kind.TheVariants.{Synchronized, NotSynchronized}
use Rattle.accounts.specs.declared.supplier.Supplier.{Supplier}
use Rattle.accounts.specs.declared.customer.Customer.{Customer}
use Rattle.accounts.specs.declared.enrolment.Field.{Field}
use Rattle.accounts.specs.declared.enrolment.Field.TheVariants.{Location, Kind as KindField, Upper, Response}

-- the most tenths, or tenths per minute, of a supplier's limit, rate, energy or product
abbrev pub most_tenths : ℕ
most_tenths = 30000

-- kind 1 is synchronized, kind 2 is not
abbrev pub kind_of_lem : ℕ → Kind
kind_of_lem n = cond (n == 1) Synchronized NotSynchronized

-- what is told of a field that is out of its range
abbrev pub out_of_range : Field → Fault
out_of_range Location = FieldOutOfRange 1
out_of_range KindField = FieldOutOfRange 2
out_of_range Upper = FieldOutOfRange 3
out_of_range Response = FieldOutOfRange 4

-- a supplier's location, kind, upper limit and response rate, in this order
abbrev pub fields_verdict : ℕ → ℕ → ℕ → ℕ → ℕ → Verdict Fault
fields_verdict locations location kind upper response =
    want (nat_lt location locations) (FieldOutOfRange 1)
    then want (kind == 1 || kind == 2) (FieldOutOfRange 2)
    then want (nat_le upper most_tenths) (FieldOutOfRange 3)
    then want (nat_le response most_tenths) (FieldOutOfRange 4)

-- an account starts at 0
abbrev pub new_supplier : ℕ → ℕ → ℕ → ℕ → ℕ → Supplier
new_supplier number location kind upper response = record {
  number = number;
  location = location;
  kind = kind_of_lem kind;
  upper = upper;
  response = response;
  cents = pos 0;
  held = 0;
  hour = pos 0;
  ahead = none_reserved;
}

abbrev pub new_customer : ℕ → Customer
new_customer number = record { number = number; cents = pos 0 }
