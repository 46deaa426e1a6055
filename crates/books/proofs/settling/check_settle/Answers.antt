use Rattle.std.proofs.Common.{rules}
use Rattle.accounts.specs.Posting.{settle, settles}
use Rattle.faults.specs.declared.fault.Fault.TheVariants.{AccountRange}
use Rattle.books.proofs.Outcomes.{tells}
use Rattle.books.proofs.settling.check_settle.Goals as goal

pub returns : goal.returns
returns c = c.check_all.ensures settles (λ i. AccountRange i) (λ a r k. search (rules, tells (settles a.now) (settle a.now))) (λ i r k. search rules)
