use Rattle.std.proofs.Common.{rules}
use Rattle.accounts.specs.Posting.{stays}
use Rattle.accounts.specs.Terms.{post_by}
use Rattle.faults.specs.declared.fault.Fault.TheVariants.{AccountRange}
use Rattle.books.proofs.Outcomes.{tells}
use Rattle.books.proofs.posting.check_post.Goals as goal

pub returns : goal.returns
returns c =
    let t = c.args.terms.now in
    c.check_rows.ensures (stays (post_by t)) (λ i. AccountRange i) (λ a w r k. search (rules, tells (stays (post_by t) a.now w.now) (post_by t a.now w.now.reserves))) (λ i r k. search rules)
