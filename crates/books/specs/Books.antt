-- What a book is to its callers: its accounts, the room of its table, and which table that is.
use Rattle.std.specs.Prelude.{ℕ, min, List, length, take}
use Rattle.std.specs.Borrow.{GName}
use Rattle.accounts.specs.Limits.{most_suppliers, most_customers}
use Rattle.accounts.specs.declared.supplier.Supplier.{Supplier}
use Rattle.accounts.specs.declared.schedule.ScheduleRow.{ScheduleRow}
use Rattle.accounts.specs.declared.customer.Customer.{Customer}
use Rattle.accounts.specs.declared.withdrawal.WithdrawalRow.{WithdrawalRow}
use Rattle.books.specs.declared.book.Book.{Book}

module _ {A R : Type 0} where
  -- the rows of the table
  abbrev pub room : Book A R → ℕ
  room b = length b.rows.now

  -- the first rows, as many as are counted: no more than the kind has at most, nor than there is room for
  abbrev pub accounts : ℕ → Book A R → List A
  accounts most b = take (min most (min b.count (room b))) b.rows.now

  abbrev pub table : Book A R → GName
  table b = b.rows.ghost_name

abbrev pub suppliers : Book Supplier ScheduleRow → List Supplier
suppliers b = accounts most_suppliers b

abbrev pub customers : Book Customer WithdrawalRow → List Customer
customers b = accounts most_customers b
