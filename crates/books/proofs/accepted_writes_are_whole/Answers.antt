use Rattle.std.proofs.Common.{refl}
use Rattle.accounts.specs.Terms.{post_by}
use Rattle.books.proofs.Accepted.{each_posted, map_settled, each_charged}
use Rattle.books.proofs.accepted_writes_are_whole.Goals as goal

pub returns : goal.returns
returns c = record { post = λ t xs rows h e. each_posted t (post_by t) (λ a r. refl) xs rows h e; settle = map_settled; charge = each_charged }
