use Rattle.std.proofs.Common.{rules}
use Rattle.accounts.specs.Posting.{settle, settles}
use Rattle.books.specs.Changes.{settled_or}
use Rattle.books.proofs.Outcomes.{or_kept}
use Rattle.books.proofs.settling.Book+Supplier.settle.Goals as goal

pub returns-clause-after : goal.returns-clause-after
returns-clause-after c = c.change.ensures.after settled_or (λ a r k. search (rules, or_kept (settles a.now) (settle a.now) a.now))
