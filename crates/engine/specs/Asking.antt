-- The call that a record asks for.
use Rattle.std.specs.Prelude.{List}
use Rattle.curves.specs.declared.step.Step.{Step}
use Rattle.law.specs.Ledger.{Args, enrol_supplier, enrol_customer, open_hour, clear, interval, close, void}
use Rattle.feed.specs.Entries.{Entry, supplier, customer, opening, clearing, interval as interval_entry, closing, voiding}

-- a clearing and an interval take the curves of the curve book
abbrev pub asks : List (List Step) → Entry → Args
asks curves (supplier new) = enrol_supplier new.number new.location new.kind new.upper new.response
asks curves (customer number) = enrol_customer number
asks curves (opening hour) = open_hour hour
asks curves (clearing s) = clear s.prices s.targets curves s.rows
asks curves (interval_entry seconds s) = interval seconds s.prices s.targets curves s.rows
asks curves (closing rows) = close rows
asks curves voiding = void
