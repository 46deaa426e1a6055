-- The cost counted by requirement is what suppliers and products earn.
use Rattle.std.proofs.Common.{◌≡◌, ℕ, List, [], ◌∷◌, length, get_or, ℤ, pos, ◌+ℤ◌, ◌-ℤ◌, ◌*ℤ◌, sym, refl, ap, ◌∙◌, arith}
use borrow.Author.Differences.{ints}
use Rattle.sums.specs.Sums.{sum_z, when, when_z, upto}
use Rattle.sums.proofs.Ring.{distr_sub_l}
use Rattle.sums.proofs.SumLaws.{sum_ext, sum_sub, pos_sum, pos_when, weighed_either_way}
use Rattle.maps.specs.declared.product.Product.{Product}
use Rattle.maps.specs.Market.{Market}
use Rattle.market.specs.Products.{Reserves}
use Rattle.market.specs.Prices.{products, tenths, price, located, quantity, worth, amounts, over, cost, cost_over_lem}
use Rattle.market.specs.Laws.{total, earned, earned_over, CostIsEarned}

module _ (m : Market) (shadow : List ℕ) where
  price_is : (p : Product) (l : ℕ) → pos (price m shadow p l) ≡ sum_z (λ k. when_z (m.counts k p l) (pos (get_or shadow k 0))) (upto m.requirements)
  price_is p l =
      pos_sum (λ k. when (m.counts k p l) (get_or shadow k 0)) (upto m.requirements)
      ∙ sum_ext _ _ (λ k. pos_when (m.counts k p l) (get_or shadow k 0)) (upto m.requirements)

  worth_is : (l : ℕ) (t : Product → ℤ) → worth m shadow l t ≡ sum_z (λ p. sum_z (λ k. when_z (m.counts k p l) (pos (get_or shadow k 0))) (upto m.requirements) *ℤ t p) products
  worth_is l t = sum_ext _ _ (λ p. ap (λ (z : ℤ). z *ℤ t p) (price_is p l)) products

  quantity_is : (ls : List ℕ) (rs : List Reserves) (k : ℕ) → pos (quantity m ls rs k) ≡ sum_z (λ x. sum_z (λ p. when_z (m.counts k p x.place) (amounts x.reserves p)) products) (located ls rs)
  quantity_is ls rs k =
      pos_sum _ (located ls rs)
      ∙ sum_ext _ _ (λ x. pos_sum (λ p. when (m.counts k p x.place) (tenths x.reserves p)) products ∙ sum_ext _ _ (λ p. pos_when (m.counts k p x.place) (tenths x.reserves p)) products) (located ls rs)

  -- supplier by supplier
  abbrev worths : List ℕ → List Reserves → ℤ
  worths ls rs = sum_z (λ x. worth m shadow x.place (amounts x.reserves)) (located ls rs)

  worths_cost : (ls : List ℕ) (rs : List Reserves) → worths ls rs ≡ cost m shadow ls rs
  worths_cost ls rs =
      sum_ext _ _ (λ x. worth_is x.place (amounts x.reserves)) (located ls rs)
      ∙ weighed_either_way (λ k p x. m.counts k p x.place) (λ k. pos (get_or shadow k 0)) (λ x. amounts x.reserves) (upto m.requirements) products (located ls rs)
      ∙ sum_ext _ _ (λ k. ap (λ (z : ℤ). pos (get_or shadow k 0) *ℤ z) (sym (quantity_is ls rs k))) (upto m.requirements)

  earned_sum : (ls : List ℕ) (rs : List Reserves) → total (earned m shadow ls rs) ≡ worths ls rs
  earned_sum [] rs = refl
  earned_sum (l ∷ ls) [] = refl
  earned_sum (l ∷ ls) (r ∷ rs) = ap (λ (z : ℤ). worth m shadow l (amounts r) +ℤ z) (earned_sum ls rs)

  worth_over : (l : ℕ) (r a : Reserves) → worth m shadow l (over r a) ≡ worth m shadow l (amounts r) -ℤ worth m shadow l (amounts a)
  worth_over l r a =
      sum_ext _ _ (λ p. distr_sub_l (pos (price m shadow p l)) (amounts r p) (amounts a p)) products
      ∙ sum_sub (λ p. pos (price m shadow p l) *ℤ amounts r p) (λ p. pos (price m shadow p l) *ℤ amounts a p) products

  over_sum : (ls : List ℕ) (rt da : List Reserves) → length rt ≡ length ls → length da ≡ length ls → total (earned_over m shadow ls rt da) ≡ worths ls rt -ℤ worths ls da
  over_sum [] rt da p q = refl
  over_sum (l ∷ ls) [] da p q = absurd (omega arith)
  over_sum (l ∷ ls) (r ∷ rt) [] p q = absurd (omega arith)
  over_sum (l ∷ ls) (r ∷ rt) (a ∷ da) p q =
      lin (worth m shadow l (amounts r)) (worth m shadow l (amounts a)) (worths ls rt) (worths ls da) _ _ (worth_over l r a) (over_sum ls rt da (omega arith) (omega arith))
    where
      lin : (wr wa x y w s : ℤ) → w ≡ wr -ℤ wa → s ≡ x -ℤ y → w +ℤ s ≡ (wr +ℤ x) -ℤ (wa +ℤ y)
      lin wr wa x y w s e f = omega (arith, ints)

  pub cost_differs : (ls : List ℕ) (rt da : List Reserves) → cost_over_lem m shadow ls rt da ≡ cost m shadow ls rt -ℤ cost m shadow ls da
  cost_differs ls rt da =
      sum_ext _ _ (λ k. distr_sub_l (pos (get_or shadow k 0)) (pos (quantity m ls rt k)) (pos (quantity m ls da k))) (upto m.requirements)
      ∙ sum_sub (λ k. pos (get_or shadow k 0) *ℤ pos (quantity m ls rt k)) (λ k. pos (get_or shadow k 0) *ℤ pos (quantity m ls da k)) (upto m.requirements)

pub cost_is_earned_lem : (m : Market) → CostIsEarned m
cost_is_earned_lem m = record {
  scheduled = λ shadow ls rs. earned_sum m shadow ls rs ∙ worths_cost m shadow ls rs;
  differing = λ shadow ls rt da p q. over_sum m shadow ls rt da p q ∙ cc (worths_cost m shadow ls rt, worths_cost m shadow ls da, cost_differs m shadow ls rt da);
}
