-- What a refusal tells: the one definition that attaches number, layer and values to each cause.
use Rattle.std.specs.Prelude.{ℕ, Some, None}
use Rattle.faults.specs.declared.fault.Layer.{Layer}
use Rattle.faults.specs.declared.fault.Layer.TheVariants.{Feed, Book, Sheet, Hour, Table}
use Rattle.faults.specs.declared.fault.Fault.{Fault}
use Rattle.faults.specs.declared.fault.Fault.TheVariants.{
  Truncated,
  UnknownKind,
  SizeNotAllowed,
  WrongStage,
  BufferTooShort,
  NumberTaken,
  BookFull,
  FieldOutOfRange,
  HourOutOfOrder,
  SheetLength,
  SheetNumber,
  BeyondCapability,
  RequirementCount,
  PriceOrTargetOutOfRange,
  AboveDemandCurve,
  IntervalLength,
  HourIncomplete,
  NegativeNet,
  WithdrawalTotal,
  AccountRange,
  CurveSteps,
  MapArrays,
}
use Rattle.faults.specs.declared.fault.Told.{Told}

-- a refusal that tells one value
abbrev pub tells : ℕ → Layer → ℕ → Told
tells n layer v = record { number = n; layer = layer; value = Some v; step = None }

abbrev pub told_of : Fault → Told
told_of (Truncated offset) = tells 1 Feed offset
told_of (UnknownKind offset) = tells 2 Feed offset
told_of (SizeNotAllowed offset) = tells 3 Feed offset
told_of (WrongStage offset) = tells 4 Feed offset
told_of (BufferTooShort needed) = tells 5 Feed needed
told_of (NumberTaken place) = tells 11 Book place
told_of (BookFull count) = tells 12 Book count
told_of (FieldOutOfRange field) = tells 13 Book field
told_of (HourOutOfOrder last) = record { number = 21; layer = Hour; value = last; step = None }
told_of (SheetLength count) = tells 31 Sheet count
told_of (SheetNumber row) = tells 32 Sheet row
told_of (BeyondCapability row) = tells 33 Sheet row
told_of (RequirementCount requirements) = tells 34 Sheet requirements
told_of (PriceOrTargetOutOfRange requirement) = tells 35 Sheet requirement
told_of (AboveDemandCurve requirement) = tells 36 Sheet requirement
told_of (IntervalLength seconds) = tells 41 Hour seconds
told_of (HourIncomplete seconds) = tells 42 Hour seconds
told_of (NegativeNet row) = tells 43 Hour row
told_of (WithdrawalTotal total) = tells 44 Hour total
told_of (AccountRange row) = tells 45 Hour row
told_of (CurveSteps curve step) = record { number = 51; layer = Table; value = Some curve; step = Some step }
told_of (MapArrays location) = tells 52 Table location
