use Rattle.std.proofs.Common.{◌≡◌, ℕ, Bool, true, false, get_or, rules}
use Rattle.std.proofs.lemmas.Iterator.{first_from_Range}
use borrow.Author.Tests.{tests}
use Rattle.faults.specs.declared.fault.Fault.TheVariants.{AboveDemandCurve}
use Rattle.curves.specs.Book.{curves_of}
use Rattle.market.specs.Claims.{within_curve}
use Rattle.market.proofs.Within.{none_failing, first_failing}
use Rattle.market.proofs.claims.Claim.check_curves.Goals as goal

pub returns-in-Some : goal.returns-in-Some
returns-in-Some c =
    let ok : ℕ → Bool = within_curve c.args.self.now.shadow_prices.now c.args.self.now.targets.now (curves_of c.args.self.now.curves.now) (λ j. get_or c.args.self.now.quantities.now j 0) in
    first_failing ok AboveDemandCurve c.args.requirements _ _ c.in-Some.is (first_from_Range _ _ _ _ (λ k. ok k ≡ false) (λ k. ok k ≡ true) c.find.ensures.ran (λ x q k. search (rules, tests)) (λ x q k. search (rules, tests)))

pub returns-in-None : goal.returns-in-None
returns-in-None c =
    let ok : ℕ → Bool = within_curve c.args.self.now.shadow_prices.now c.args.self.now.targets.now (curves_of c.args.self.now.curves.now) (λ j. get_or c.args.self.now.quantities.now j 0) in
    none_failing ok AboveDemandCurve c.args.requirements _ c.in-None.is (first_from_Range _ _ _ _ (λ k. ok k ≡ false) (λ k. ok k ≡ true) c.find.ensures.ran (λ x q k. search (rules, tests)) (λ x q k. search (rules, tests)))
