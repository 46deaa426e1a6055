-- An account moves to a later state only if it is in its ranges before and after.
use Rattle.std.proofs.Common.{◌≡◌, Bool, false, ◌&&◌, ℤ, None, Option, sym, ap, ◌∙◌}
use Rattle.std.proofs.lemmas.Bool.{and_left, and_right}
use Rattle.accounts.specs.declared.supplier.Supplier.{Supplier}
use Rattle.accounts.specs.Outcomes.{provided}
use Rattle.accounts.specs.Ranges.{amount_fits_lem, hour_fits_lem, limits_fit_lem, amounts_fit_lem, supplier_fits}
use Rattle.accounts.proofs.Outcome.{withheld}

abbrev moves : Supplier → Supplier → Bool
moves a b = supplier_fits a && supplier_fits b

-- a sum that is out of range keeps the account where it is
no_amounts : (a b : Supplier) → amounts_fit_lem b ≡ false → moves a b ≡ false
no_amounts a b e = and_right (supplier_fits a) (supplier_fits b) (and_right (hour_fits_lem b) (limits_fit_lem b && amounts_fit_lem b) (and_right (limits_fit_lem b) (amounts_fit_lem b) e))

pub cents_withheld : (a b : Supplier) (z : ℤ) → z ≡ b.cents → None ≡ provided (amount_fits_lem z) z → None ≡ provided (moves a b) b
cents_withheld a b z e h =
    let f : amount_fits_lem b.cents ≡ false = ap amount_fits_lem (sym e) ∙ withheld (amount_fits_lem z) z h in
    rw (no_amounts a b (and_left (amount_fits_lem b.cents) (amount_fits_lem b.hour) f))

pub hour_withheld : (a b : Supplier) (z : ℤ) → z ≡ b.hour → None ≡ provided (amount_fits_lem z) z → None ≡ provided (moves a b) b
hour_withheld a b z e h =
    let f : amount_fits_lem b.hour ≡ false = ap amount_fits_lem (sym e) ∙ withheld (amount_fits_lem z) z h in
    rw (no_amounts a b (and_right (amount_fits_lem b.cents) (amount_fits_lem b.hour) f))

pub moved : (a b b' : Supplier) (r : Option Supplier) → r ≡ provided (moves a b) b → b ≡ b' → r ≡ provided (moves a b') b'
moved a b b' r e f = e ∙ ap (λ (x : Supplier). provided (moves a x) x) f
