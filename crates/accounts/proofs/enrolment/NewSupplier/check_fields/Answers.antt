use Rattle.std.proofs.Common.{◌≡◌, ◌==◌, ◌||◌, true, false, nat_lt, arith}
use Rattle.std.specs.Result.{is_err}
use Rattle.std.proofs.lemmas.Bool.Decides.{nat_tests}
use Rattle.accounts.proofs.ReadKinds.{none_read}
use Rattle.accounts.proofs.enrolment.NewSupplier.check_fields.Goals as goal

pub returns-then-is_err : goal.returns-then-is_err
returns-then-is_err c =
    let n = c.args.self.now.kind in
    let t : is_err c.try_from.result ≡ true = cc in
    let none : (n == 1 || n == 2) ≡ false = none_read n c.try_from.result c.try_from.ensures t in
    let placed : nat_lt c.args.self.now.location c.args.locations ≡ true = grind (arith, nat_tests) in
    rw (placed, none, c.into-then-is_err.ensures)
