use Rattle.std.proofs.Common.{◌≡◌, refl, false, rules}
use Rattle.books.specs.Books.{suppliers, customers, room}
use Rattle.settlement.proofs.Found.{taken, has, at_wrong_stage}
use Rattle.settlement.proofs.call.step.step.Goals as goal

pub returns-in-Rest-EnrolSupplier : goal.returns-in-Rest-EnrolSupplier
returns-in-Rest-EnrolSupplier g c =
    taken (g.M.LocationMap.market c.args.house.now.map.now) (g.met.M.LocationMap.lawful c.args.house.now.map.now) g.S.SharingRule.share g.met.S.SharingRule.fair c.args.house.now (record { map = refl; curves = refl }) c.in-Rest-EnrolSupplier.is-0 c.in-Rest-EnrolSupplier.is-1
    (c.enrol_supplier-done.ensures g.S.SharingRule.share (customers c.args.house.now.customers) (room c.args.house.now.customers))

pub returns-in-Rest-EnrolCustomer : goal.returns-in-Rest-EnrolCustomer
returns-in-Rest-EnrolCustomer g c =
    taken (g.M.LocationMap.market c.args.house.now.map.now) (g.met.M.LocationMap.lawful c.args.house.now.map.now) g.S.SharingRule.share g.met.S.SharingRule.fair c.args.house.now (record { map = refl; curves = refl }) c.in-Rest-EnrolCustomer.is-0 c.in-Rest-EnrolCustomer.is-1
    (c.enrol_customer-done.ensures (g.M.LocationMap.market c.args.house.now.map.now) g.S.SharingRule.share (suppliers c.args.house.now.suppliers) (room c.args.house.now.suppliers))

pub returns-in-Ok : goal.returns-in-Ok
returns-in-Ok g c =
    taken (g.M.LocationMap.market c.args.house.now.map.now) (g.met.M.LocationMap.lawful c.args.house.now.map.now) g.S.SharingRule.share g.met.S.SharingRule.fair c.args.house.now (record { map = refl; curves = refl }) c.in-Rest-Open.is-0 c.in-Rest-Open.is-1
    (c.in-Ok.ensures (g.M.LocationMap.market c.args.house.now.map.now) g.S.SharingRule.share (suppliers c.args.house.now.suppliers) (customers c.args.house.now.customers) (room c.args.house.now.suppliers) (room c.args.house.now.customers))

pub returns-in-Err : goal.returns-in-Err
returns-in-Err g c =
    taken (g.M.LocationMap.market c.args.house.now.map.now) (g.met.M.LocationMap.lawful c.args.house.now.map.now) g.S.SharingRule.share g.met.S.SharingRule.fair c.args.house.now (record { map = refl; curves = refl }) c.in-Rest-Open.is-0 c.in-Rest-Open.is-1
    (c.in-Err.ensures (g.M.LocationMap.market c.args.house.now.map.now) g.S.SharingRule.share (suppliers c.args.house.now.suppliers) (customers c.args.house.now.customers) (room c.args.house.now.suppliers) (room c.args.house.now.customers))

pub returns-in-Ok-clear : goal.returns-in-Ok-clear
returns-in-Ok-clear g c =
    taken (g.M.LocationMap.market c.args.house.now.map.now) (g.met.M.LocationMap.lawful c.args.house.now.map.now) g.S.SharingRule.share g.met.S.SharingRule.fair c.args.house.now (record { map = refl; curves = refl }) c.in-Opened-Clear.is-0 c.in-Opened-Clear.is-1
    (c.in-Ok-clear.ensures g.S.SharingRule.share (customers c.args.house.now.customers) (room c.args.house.now.customers))

pub returns-in-Err-clear : goal.returns-in-Err-clear
returns-in-Err-clear g c =
    taken (g.M.LocationMap.market c.args.house.now.map.now) (g.met.M.LocationMap.lawful c.args.house.now.map.now) g.S.SharingRule.share g.met.S.SharingRule.fair c.args.house.now (record { map = refl; curves = refl }) c.in-Opened-Clear.is-0 c.in-Opened-Clear.is-1
    (c.in-Err-clear.ensures g.S.SharingRule.share (customers c.args.house.now.customers) (room c.args.house.now.customers))

pub returns-in-Cleared-Interval : goal.returns-in-Cleared-Interval
returns-in-Cleared-Interval g c =
    taken (g.M.LocationMap.market c.args.house.now.map.now) (g.met.M.LocationMap.lawful c.args.house.now.map.now) g.S.SharingRule.share g.met.S.SharingRule.fair c.args.house.now (record { map = refl; curves = refl }) c.in-Cleared-Interval.is-0 c.in-Cleared-Interval.is-1
    (c.interval-done.ensures g.S.SharingRule.share (customers c.args.house.now.customers) (room c.args.house.now.customers))

pub returns-in-Ok-close : goal.returns-in-Ok-close
returns-in-Ok-close g c =
    taken (g.M.LocationMap.market c.args.house.now.map.now) (g.met.M.LocationMap.lawful c.args.house.now.map.now) g.S.SharingRule.share g.met.S.SharingRule.fair c.args.house.now (record { map = refl; curves = refl }) c.in-Cleared-Close.is-0 c.in-Cleared-Close.is-1
    (c.in-Ok-close.ensures (g.M.LocationMap.market c.args.house.now.map.now))

pub returns-in-Err-close : goal.returns-in-Err-close
returns-in-Err-close g c =
    taken (g.M.LocationMap.market c.args.house.now.map.now) (g.met.M.LocationMap.lawful c.args.house.now.map.now) g.S.SharingRule.share g.met.S.SharingRule.fair c.args.house.now (record { map = refl; curves = refl }) c.in-Cleared-Close.is-0 c.in-Cleared-Close.is-1
    (c.in-Err-close.ensures (g.M.LocationMap.market c.args.house.now.map.now))

pub returns-in-Opened-Void : goal.returns-in-Opened-Void
returns-in-Opened-Void g c =
    taken (g.M.LocationMap.market c.args.house.now.map.now) (g.met.M.LocationMap.lawful c.args.house.now.map.now) g.S.SharingRule.share g.met.S.SharingRule.fair c.args.house.now (record { map = refl; curves = refl }) c.in-Opened-Void.is-0 c.in-Opened-Void.is-1
    (c.void.ensures (g.M.LocationMap.market c.args.house.now.map.now) g.S.SharingRule.share (customers c.args.house.now.customers) (room c.args.house.now.customers))

pub returns-in-Cleared-Void : goal.returns-in-Cleared-Void
returns-in-Cleared-Void g c =
    taken (g.M.LocationMap.market c.args.house.now.map.now) (g.met.M.LocationMap.lawful c.args.house.now.map.now) g.S.SharingRule.share g.met.S.SharingRule.fair c.args.house.now (record { map = refl; curves = refl }) c.in-Cleared-Void.is-0 c.in-Cleared-Void.is-1
    (c.void-in-Cleared-Void.ensures (g.M.LocationMap.market c.args.house.now.map.now) g.S.SharingRule.share (customers c.args.house.now.customers) (room c.args.house.now.customers))

pub returns-in_default : goal.returns-in_default
returns-in_default g c =
    let n : has c.args.ledger c.args.call ≡ false = search rules in
    taken (g.M.LocationMap.market c.args.house.now.map.now) (g.met.M.LocationMap.lawful c.args.house.now.map.now) g.S.SharingRule.share g.met.S.SharingRule.fair c.args.house.now (record { map = refl; curves = refl }) refl refl
    (at_wrong_stage (g.M.LocationMap.market c.args.house.now.map.now) g.S.SharingRule.share c.args.house.now c.args.ledger c.args.call n)

pub returns-in_default-2 : goal.returns-in_default-2
returns-in_default-2 g c =
    let n : has c.args.ledger c.args.call ≡ false = search rules in
    taken (g.M.LocationMap.market c.args.house.now.map.now) (g.met.M.LocationMap.lawful c.args.house.now.map.now) g.S.SharingRule.share g.met.S.SharingRule.fair c.args.house.now (record { map = refl; curves = refl }) refl refl
    (at_wrong_stage (g.M.LocationMap.market c.args.house.now.map.now) g.S.SharingRule.share c.args.house.now c.args.ledger c.args.call n)

pub returns-in_default-3 : goal.returns-in_default-3
returns-in_default-3 g c =
    let n : has c.args.ledger c.args.call ≡ false = search rules in
    taken (g.M.LocationMap.market c.args.house.now.map.now) (g.met.M.LocationMap.lawful c.args.house.now.map.now) g.S.SharingRule.share g.met.S.SharingRule.fair c.args.house.now (record { map = refl; curves = refl }) refl refl
    (at_wrong_stage (g.M.LocationMap.market c.args.house.now.map.now) g.S.SharingRule.share c.args.house.now c.args.ledger c.args.call n)
