-- Once a check has accepted, the write does to every account what the rules say.
use Rattle.std.specs.Prelude.{◌≡◌, List, map, length, ℤ}
use Rattle.faults.specs.declared.fault.Fault.TheVariants.{AccountRange}
use Rattle.sums.specs.Sums.{each}
use Rattle.sums.specs.Verdict.{accept, scan, scan_one}
use Rattle.accounts.specs.declared.supplier.Supplier.{Supplier}
use Rattle.accounts.specs.declared.schedule.ScheduleRow.{ScheduleRow}
use Rattle.accounts.specs.declared.customer.Customer.{Customer}
use Rattle.accounts.specs.declared.posting.Terms.{Terms}
use Rattle.accounts.specs.Posting.{stays, settles, settle, chargeable, charge}
use Rattle.accounts.specs.Terms.{post_by}
use Rattle.books.specs.Changes.{change_each, posted_or, settled_or, charged_or}

pub record AcceptedWrites : Type 0 where
  pub post : (t : Terms) (xs : List Supplier) (rows : List ScheduleRow) → length rows ≡ length xs → scan (stays (post_by t)) AccountRange 0 xs rows ≡ accept
      → change_each (posted_or t) xs rows ≡ each (post_by t) xs (map (λ w. w.reserves) rows)
  pub settle : (xs : List Supplier) → scan_one settles AccountRange 0 xs ≡ accept → map settled_or xs ≡ map settle xs
  pub charge : (xs : List Customer) (shares : List ℤ) → length shares ≡ length xs → scan chargeable AccountRange 0 xs shares ≡ accept
      → change_each charged_or xs shares ≡ each charge xs shares
