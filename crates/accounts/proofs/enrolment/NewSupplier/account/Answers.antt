use Rattle.std.proofs.Common.{◌≡◌, ◌∙◌}
use Rattle.accounts.specs.Enrolment.{kind_of_lem}
use Rattle.accounts.proofs.ReadKinds.{kind_read}
use Rattle.accounts.proofs.enrolment.NewSupplier.account.Goals as goal

pub returns : goal.returns
returns c =
    let k : c.unwrap_or.result ≡ kind_of_lem c.args.self.now.kind = c.unwrap_or.ensures ∙ kind_read c.args.self.now.kind c.try_from.result c.try_from.ensures in
    rw k
