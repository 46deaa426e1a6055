use Rattle.std.proofs.Common.{◌≡◌, ℕ, Bool, true, false, rules}
use Rattle.std.proofs.lemmas.Iterator.{first_from_Range}
use borrow.Author.Tests.{tests}
use Rattle.faults.specs.declared.fault.Fault.TheVariants.{PriceOrTargetOutOfRange}
use Rattle.market.specs.Claims.{claim_in_range}
use Rattle.market.proofs.Within.{none_failing, first_failing}
use Rattle.market.proofs.claims.Claim.check_ranges.Goals as goal

pub returns-in-Some : goal.returns-in-Some
returns-in-Some c =
    let ok : ℕ → Bool = claim_in_range c.args.self.now.shadow_prices.now c.args.self.now.targets.now in
    first_failing ok PriceOrTargetOutOfRange c.args.requirements _ _ c.in-Some.is (first_from_Range _ _ _ _ (λ k. ok k ≡ false) (λ k. ok k ≡ true) c.find.ensures.ran (λ x q k. search (rules, tests)) (λ x q k. search (rules, tests)))

pub returns-in-None : goal.returns-in-None
returns-in-None c =
    let ok : ℕ → Bool = claim_in_range c.args.self.now.shadow_prices.now c.args.self.now.targets.now in
    none_failing ok PriceOrTargetOutOfRange c.args.requirements _ c.in-None.is (first_from_Range _ _ _ _ (λ k. ok k ≡ false) (λ k. ok k ≡ true) c.find.ensures.ran (λ x q k. search (rules, tests)) (λ x q k. search (rules, tests)))
