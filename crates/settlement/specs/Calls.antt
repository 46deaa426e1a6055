-- The model's call, from a call and the curve book beside it.
use Rattle.std.specs.Prelude.{List}
use Rattle.curves.specs.declared.step.Step.{Step}
use Rattle.law.specs.Ledger.{Args, enrol_supplier, enrol_customer, open_hour, clear, interval, close, void}
use Rattle.settlement.specs.declared.call.Call.{Call}
use Rattle.settlement.specs.declared.call.Call.TheVariants.{EnrolSupplier, EnrolCustomer, Open, Clear, Interval, Close, Void}

abbrev pub asked : List (List Step) → Call → Args
asked curves (EnrolSupplier new) = enrol_supplier new.number new.location new.kind new.upper new.response
asked curves (EnrolCustomer number) = enrol_customer number
asked curves (Open hour) = open_hour hour
asked curves (Clear sheet) = clear sheet.shadow_prices.now sheet.targets.now curves sheet.rows.now
asked curves (Interval seconds sheet) = interval seconds sheet.shadow_prices.now sheet.targets.now curves sheet.rows.now
asked curves (Close rows) = close rows.now
asked curves Void = void
