-- Posting by a table of prices is posting by the market's rules.
use Rattle.std.proofs.Common.{◌≡◌, ℕ, List, ℤ, pos, ◌+ℤ◌, ◌*ℤ◌, ap, ◌∙◌, arith}
use borrow.Author.Differences.{ints}
use Rattle.sums.proofs.SumLaws.{sum_ext}
use Rattle.maps.specs.declared.product.Product.{Product}
use Rattle.maps.specs.declared.product.Product.TheVariants.{ThirtyMinute, TenMinute, Spinning}
use Rattle.maps.specs.Market.{Market}
use Rattle.market.specs.Products.{ProductPrices, Reserves}
use Rattle.market.specs.Prices.{products, price, none_reserved, worth, amounts, over}
use Rattle.accounts.specs.declared.supplier.Supplier.{Supplier}
use Rattle.accounts.specs.declared.posting.Terms.{Terms}
use Rattle.accounts.specs.declared.posting.Timing.{Timing}
use Rattle.accounts.specs.declared.posting.Timing.TheVariants.{DayAhead, RealTime}
use Rattle.accounts.specs.Posting.{with_hour_lem, post_clearing, post_interval}
use Rattle.accounts.specs.Terms.{earned, prices_for, paid_at, kept_at, post_by}
use Rattle.accounts.specs.Laws.{Priced, TermsKeepRule}

-- all of a schedule is over none
over_none : (r : Reserves) (p : Product) → over r none_reserved p ≡ amounts r p
over_none r ThirtyMinute = omega (arith, ints)
over_none r TenMinute = omega (arith, ints)
over_none r Spinning = omega (arith, ints)

-- the posting, by its timing and its seconds
abbrev by : Terms → Supplier → Reserves → Timing → ℕ → Supplier
by t a r timing seconds =
    with_hour_lem a (a.hour +ℤ earned (prices_for t a) (over r (paid_at timing a.ahead)) *ℤ pos seconds) (kept_at timing r a.ahead)

module _ (m : Market) (shadow : List ℕ) (t : Terms) (priced : Priced m shadow t) (a : Supplier) (r : Reserves) where
  earned_is : (paid : Reserves) → earned (prices_for t a) (over r paid) ≡ worth m shadow a.location (over r paid)
  earned_is paid = ap (λ (q : ProductPrices). earned q (over r paid)) (priced a.location)

  worth_is : worth m shadow a.location (over r none_reserved) ≡ worth m shadow a.location (amounts r)
  worth_is = sum_ext _ _ (λ p. ap (λ (z : ℤ). pos (price m shadow p a.location) *ℤ z) (over_none r p)) products

  clears : t.timing ≡ DayAhead → t.seconds ≡ 3600 → post_by t a r ≡ post_clearing m shadow a r
  clears e f =
      ap (λ (b : Timing). by t a r b t.seconds) e
      ∙ ap (by t a r DayAhead) f
      ∙ ap (λ (z : ℤ). with_hour_lem a (a.hour +ℤ z *ℤ pos 3600) r) (earned_is none_reserved ∙ worth_is)

  spans : t.timing ≡ RealTime → post_by t a r ≡ post_interval m shadow t.seconds a r
  spans e =
      ap (λ (b : Timing). by t a r b t.seconds) e
      ∙ ap (λ (z : ℤ). with_hour_lem a (a.hour +ℤ z *ℤ pos t.seconds) a.ahead) (earned_is a.ahead)

pub terms_keep_rule : TermsKeepRule
terms_keep_rule m shadow t priced = record {
  clearing = λ e f a r. clears m shadow t priced a r e f;
  interval = λ e a r. spans m shadow t priced a r e;
}
