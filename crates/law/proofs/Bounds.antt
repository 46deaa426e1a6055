-- How much an hour can cost.
use Rattle.std.proofs.Common.{◌≡◌, ℕ, zero, suc, ◌+◌, ◌*◌, ◌≤◌, Bool, true, false, List, [], ◌∷◌, length, get_or, ℤ, pos, negsuc, ◌+ℤ◌, ◌-ℤ◌, ◌*ℤ◌, neg_ℤ, nat_abs, sum_by, sym, refl, ◌∙◌, mul-le-mul_right, mul-le-mul, mul-add, arith}
use borrow.Author.Differences.{ints}
use Rattle.std.proofs.lemmas.List.Sums.{sum_by-cons}
use Rattle.sums.specs.Sums.{upto, when}
use Rattle.sums.proofs.SumLaws.{upto_at_most, pos_sum}
use Rattle.maps.specs.declared.product.Product.TheVariants.{ThirtyMinute, TenMinute, Spinning}
use Rattle.maps.specs.Market.{Market}
use Rattle.market.specs.Products.{Reserves}
use Rattle.market.specs.Prices.{Located, located, toward, quantity, cost, cost_over_lem}
use Rattle.market.proofs.Costs.{cost_differs}

-- no row has more than b tenths, in its three products together
abbrev pub Small : ℕ → List Reserves → Type 0
Small b [] = Unit {0}
Small b (r ∷ rs) = (r.thirty + r.ten + r.spinning ≤ b) × Small b rs

when_most : (b : Bool) (n : ℕ) → when b n ≤ n
when_most true n = omega arith
when_most false n = omega arith

toward_most : (m : Market) (k l : ℕ) (r : Reserves) → toward m k l r ≤ r.thirty + r.ten + r.spinning
toward_most m k l r =
    let x = when_most (m.counts k ThirtyMinute l) r.thirty in
    let y = when_most (m.counts k TenMinute l) r.ten in
    let z = when_most (m.counts k Spinning l) r.spinning in
    omega arith

quantity_most : (m : Market) (b k : ℕ) (ls : List ℕ) (rs : List Reserves) → Small b rs → quantity m ls rs k ≤ length ls * b
quantity_most m b k [] rs h = omega arith
quantity_most m b k (l ∷ ls) [] h = omega arith
quantity_most m b k (l ∷ ls) (r ∷ rs) h =
    let f : Located → ℕ = λ x. toward m k x.place x.reserves in
    omega (arith, sum_by-cons f (record { place = l; reserves = r }) (located ls rs), toward_most m k l r, quantity_most m b k ls rs h.1, h.0)

-- over the limits as numbers: n requirements, prices up to p, s suppliers, b tenths in a row
module _ (m : Market) (shadow ls : List ℕ) (n p s b : ℕ) (few : m.requirements ≤ n) (priced : (k : ℕ) → get_or shadow k 0 ≤ p) (many : length ls ≤ s) where
  abbrev units : List Reserves → ℕ
  units rs = sum_by (λ k. get_or shadow k 0 * quantity m ls rs k) (upto m.requirements)

  cost_is : (rs : List Reserves) → cost m shadow ls rs ≡ pos (units rs)
  cost_is rs = sym (pos_sum (λ k. get_or shadow k 0 * quantity m ls rs k) (upto m.requirements))

  units_most : (rs : List Reserves) → Small b rs → units rs ≤ n * (p * (s * b))
  units_most rs h = upto_at_most (λ k. get_or shadow k 0 * quantity m ls rs k) m.requirements n (p * (s * b)) few one
    where
      one : (k : ℕ) → get_or shadow k 0 * quantity m ls rs k ≤ p * (s * b)
      one k =
          let q : quantity m ls rs k ≤ length ls * b = quantity_most m b k ls rs h in
          let l : length ls * b ≤ s * b = mul-le-mul_right b many in
          let z : quantity m ls rs k ≤ s * b = omega arith in
          mul-le-mul (priced k) z

  pub cost_most : (rs : List Reserves) → Small b rs → nat_abs (cost m shadow ls rs) ≤ n * (p * (s * b))
  cost_most rs h = rw (cost_is rs) (units_most rs h)

  pub over_most : (real ahead : List Reserves) → Small b real → Small b ahead → nat_abs (cost_over_lem m shadow ls real ahead) ≤ n * (p * (s * b))
  over_most real ahead h k =
      lin (cost_over_lem m shadow ls real ahead) (units real) (units ahead) (n * (p * (s * b))) (cost_differs m shadow ls real ahead ∙ cc (cost_is real, cost_is ahead)) (units_most real h) (units_most ahead k)
    where
      lin : (z : ℤ) (x y t : ℕ) → z ≡ pos x -ℤ pos y → x ≤ t → y ≤ t → nat_abs z ≤ t
      lin z x y t e p q = omega (arith, ints)

-- and over time
abs_neg : (n : ℕ) → nat_abs (neg_ℤ (pos n)) ≡ n
abs_neg zero = refl
abs_neg (suc n) = refl

abs_times : (z : ℤ) (d : ℕ) → nat_abs (z *ℤ pos d) ≡ nat_abs z * d
abs_times (pos n) d = refl
abs_times (negsuc n) d = abs_neg (suc n * d)

-- d seconds at no more than t each
pub for_time : (z : ℤ) (d t : ℕ) → nat_abs z ≤ t → nat_abs (z *ℤ pos d) ≤ t * d
for_time z d t h = rw (abs_times z d) (mul-le-mul_right d h)

-- and on top of n others
pub grown_within : (c x : ℤ) (t n d : ℕ) → nat_abs c ≤ t * n → nat_abs x ≤ t → nat_abs (c +ℤ x *ℤ pos d) ≤ t * (n + d)
grown_within c x t n d h k =
    lin c (x *ℤ pos d) (t * n) (t * d) (t * (n + d)) (mul-add t n d) h (for_time x d t k)
  where
    lin : (a b : ℤ) (p q s : ℕ) → s ≡ p + q → nat_abs a ≤ p → nat_abs b ≤ q → nat_abs (a +ℤ b) ≤ s
    lin a b p q s e h k = omega (arith, ints)
