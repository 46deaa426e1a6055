use Rattle.std.proofs.Common.{rules}
use Rattle.accounts.specs.Posting.{stays}
use Rattle.accounts.specs.Terms.{post_by}
use Rattle.books.specs.Changes.{posted_or}
use Rattle.books.proofs.Outcomes.{or_kept}
use Rattle.books.proofs.posting.Book+Supplier.post.Goals as goal

pub returns-clause-after : goal.returns-clause-after
returns-clause-after c =
    let t = c.args.terms.now in
    c.change_by.ensures.after (posted_or t) (λ a w r k. search (rules, or_kept (stays (post_by t) a.now w.now) (post_by t a.now w.now.reserves) a.now))
