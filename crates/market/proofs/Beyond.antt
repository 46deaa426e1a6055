-- Past a map's counts nothing counts, so prices and quantities are 0 there.
use Rattle.std.proofs.Common.{◌≡◌, ℕ, zero, suc, ◌<◌, ◌≤◌, min, Bool, true, false, List, length, get_or, sum_by, refl, ap, inl, inr, eq-or-lt_of_le, arith}
use Rattle.std.proofs.lemmas.List.{get_or_past}
use Rattle.std.proofs.lemmas.List.Sums.{sum_by-cons}
use Rattle.sums.specs.Sums.{upto, when}
use Rattle.sums.proofs.SumLaws.{upto_none}
use Rattle.maps.specs.declared.product.Product.{Product}
use Rattle.maps.specs.declared.product.Product.TheVariants.{ThirtyMinute, TenMinute, Spinning}
use Rattle.maps.specs.Market.{Market, MapLaw}
use Rattle.market.specs.Prices.{price}
use Rattle.market.specs.Tables.{no_prices, prices_at_lem}

-- a sum over the numbers below m takes nothing from those at which the term is 0
upto_rest : (f : ℕ → ℕ) (n m : ℕ) → n ≤ m → ((k : ℕ) → n ≤ k → k < m → f k ≡ 0) → sum_by f (upto n) ≡ sum_by f (upto m)
upto_rest f n zero h z = let e : n ≡ 0 = omega arith in rw e
upto_rest f n (suc m) h z = elim (eq-or-lt_of_le h) [
  | inl e ↦ ap (λ (j : ℕ). sum_by f (upto j)) e
  | inr l ↦ omega (arith, sum_by-cons f m (upto m), z m (omega arith) (omega arith), upto_rest f n m (omega arith) (λ k a b. z k a (omega arith)))
]

-- the requirements past the shadow prices add nothing to a price
pub price_of_first : (m : Market) (shadow : List ℕ) (p : Product) (l n : ℕ) → n ≡ min (length shadow) m.requirements
    → sum_by (λ k. when (m.counts k p l) (get_or shadow k 0)) (upto n) ≡ price m shadow p l
price_of_first m shadow p l n e =
    upto_rest (λ k. when (m.counts k p l) (get_or shadow k 0)) n m.requirements (omega arith) (λ k a b. nothing (m.counts k p l) _ (get_or_past shadow k 0 (omega arith)))
  where
    nothing : (b : Bool) (x : ℕ) → x ≡ 0 → when b x ≡ 0
    nothing true x q = q
    nothing false x q = refl

module _ (m : Market) (law : MapLaw m) where
  pub not_located : (k : ℕ) (p : Product) (l : ℕ) → m.locations ≤ l → m.counts k p l ≡ false
  not_located k p l h = go (m.counts k p l) refl
    where
      go : (b : Bool) → m.counts k p l ≡ b → b ≡ false
      go false e = refl
      go true e = absurd (omega (arith, (law.within k p l e).1))

  pub not_required : (k : ℕ) (p : Product) (l : ℕ) → m.requirements ≤ k → m.counts k p l ≡ false
  not_required k p l h = go (m.counts k p l) refl
    where
      go : (b : Bool) → m.counts k p l ≡ b → b ≡ false
      go false e = refl
      go true e = absurd (omega (arith, (law.within k p l e).0))

  price_beyond : (shadow : List ℕ) (p : Product) (l : ℕ) → m.locations ≤ l → price m shadow p l ≡ 0
  price_beyond shadow p l h = upto_none (λ k. when (m.counts k p l) (get_or shadow k 0)) m.requirements (λ k. ap (λ (b : Bool). when b (get_or shadow k 0)) (not_located k p l h))

  pub prices_beyond : (shadow : List ℕ) (l : ℕ) → m.locations ≤ l → no_prices ≡ prices_at_lem m shadow l
  prices_beyond shadow l h = cc (price_beyond shadow ThirtyMinute l h, price_beyond shadow TenMinute l h, price_beyond shadow Spinning l h)
