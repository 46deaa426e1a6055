use Rattle.std.proofs.Common.{◌≡◌, ℤ, refl, ap, ◌∙◌, w64, SFits, to_z, of_z, rules}
use Rattle.std.proofs.lemmas.Int.{to_z-of_z}
use Rattle.market.specs.Products.{Reserves}
use Rattle.accounts.specs.declared.supplier.Supplier.{Supplier}
use Rattle.accounts.specs.declared.posting.Terms.{Terms}
use Rattle.accounts.specs.Ranges.{amount_fits_lem}
use Rattle.accounts.specs.Posting.{with_hour_lem}
use Rattle.accounts.specs.Terms.{hour_by_lem, ahead_by_lem, post_by}
use Rattle.accounts.proofs.Outcome.{given}
use Rattle.accounts.proofs.Moves.{hour_withheld, moved}
use Rattle.accounts.proofs.supplier.Supplier.posted.Goals as goal

same_hour : (a : Supplier) (h h' : ℤ) (r r' : Reserves) → h ≡ h' → r ≡ r' → with_hour_lem a h r ≡ with_hour_lem a h' r'
same_hour a h h' r r' e f = ap (λ (z : ℤ). with_hour_lem a z r) e ∙ ap (λ (x : Reserves). with_hour_lem a h' x) f

pub returns-in_err-hour : goal.returns-in_err-hour
returns-in_err-hour c =
    let a : Supplier = c.args.self.now in
    let b : Supplier = post_by c.args.terms.now a c.args.reserves in
    c.from_residual.ensures ∙ hour_withheld a b b.hour refl c.in_err-hour.ensures

pub returns : goal.returns
returns c =
    let a : Supplier = c.args.self.now in
    let t : Terms = c.args.terms.now in
    let r : Reserves = c.args.reserves in
    let f : SFits w64 c.in_ok-hour.hour = search rules in
    let h : to_z w64 (of_z w64 c.in_ok-hour.hour) ≡ hour_by_lem t a r = to_z-of_z w64 c.in_ok-hour.hour f ∙ (given (amount_fits_lem (hour_by_lem t a r)) (hour_by_lem t a r) c.in_ok-hour.hour c.in_ok-hour.ensures).1 in
    let z : ℤ = to_z w64 (of_z w64 c.in_ok-hour.hour) in
    let w : c.with_hour.result ≡ with_hour_lem a z c.ahead_by-ahead.result = c.with_hour.ensures in
    let e : with_hour_lem a z c.ahead_by-ahead.result ≡ post_by t a r = same_hour a z (hour_by_lem t a r) c.ahead_by-ahead.result (ahead_by_lem t a r) h c.ahead_by-ahead.ensures in
    moved a c.with_hour.result (post_by t a r) c.moved_to.result c.moved_to.ensures (◌∙◌ {b = with_hour_lem a z c.ahead_by-ahead.result} w e)
