-- By which number something is refused.
use Rattle.std.specs.Prelude.{◌≡◌, ℕ, Ok, Err, Result}
use Rattle.faults.specs.declared.fault.Fault.{Fault}
use Rattle.faults.specs.Told.{told_of}

-- refused, if at all, by this number
abbrev pub RefusedBy : {A : Type 0} → ℕ → Result A Fault → Type 0
RefusedBy number (Ok accepted) = Unit {0}
RefusedBy number (Err fault) = (told_of fault).number ≡ number
