-- Posting by a table of prices is posting by the market's rules.
use Rattle.std.specs.Prelude.{◌≡◌, ℕ, List, slice_index_or}
use Rattle.maps.specs.Market.{Market}
use Rattle.market.specs.Products.{Reserves}
use Rattle.market.specs.Tables.{no_prices, prices_at_lem}
use Rattle.accounts.specs.declared.supplier.Supplier.{Supplier}
use Rattle.accounts.specs.declared.posting.Terms.{Terms}
use Rattle.accounts.specs.declared.posting.Timing.TheVariants.{DayAhead, RealTime}
use Rattle.accounts.specs.Posting.{post_clearing, post_interval}
use Rattle.accounts.specs.Terms.{post_by}

-- the terms have the market's clearing prices at every location
abbrev pub Priced : Market → List ℕ → Terms → Type 0
Priced m shadow t = (l : ℕ) → slice_index_or t.prices l no_prices ≡ prices_at_lem m shadow l

pub record PostsByRule (m : Market) (shadow : List ℕ) (t : Terms) : Type 0 where
  pub clearing : t.timing ≡ DayAhead → t.seconds ≡ 3600 → (a : Supplier) (r : Reserves) → post_by t a r ≡ post_clearing m shadow a r
  pub interval : t.timing ≡ RealTime → (a : Supplier) (r : Reserves) → post_by t a r ≡ post_interval m shadow t.seconds a r

abbrev pub TermsKeepRule : Type 0
TermsKeepRule = (m : Market) (shadow : List ℕ) (t : Terms) → Priced m shadow t → PostsByRule m shadow t
