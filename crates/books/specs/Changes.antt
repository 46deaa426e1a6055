-- What a call writes into a book.
use Rattle.std.specs.Prelude.{cond, List, [], ◌∷◌, ℤ}
use Rattle.accounts.specs.declared.supplier.Supplier.{Supplier}
use Rattle.accounts.specs.declared.schedule.ScheduleRow.{ScheduleRow}
use Rattle.accounts.specs.declared.customer.Customer.{Customer}
use Rattle.accounts.specs.declared.posting.Terms.{Terms}
use Rattle.accounts.specs.Posting.{stays, settles, settle, chargeable, charge}
use Rattle.accounts.specs.Terms.{post_by}

-- each account changed by its row; accounts past the last row stay
abbrev pub change_each : {X Y : Type 0} → (X → Y → X) → List X → List Y → List X
change_each f [] ys = []
change_each f (x ∷ xs) [] = x ∷ xs
change_each f (x ∷ xs) (y ∷ ys) = f x y ∷ change_each f xs ys

-- what the account becomes if it stays in its ranges, else the account as it is
abbrev pub posted_or : Terms → Supplier → ScheduleRow → Supplier
posted_or t a w = cond (stays (post_by t) a w) (post_by t a w.reserves) a

abbrev pub settled_or : Supplier → Supplier
settled_or a = cond (settles a) (settle a) a

abbrev pub charged_or : Customer → ℤ → Customer
charged_or c share = cond (chargeable c share) (charge c share) c
