-- Totals by location against the sums of the definition.
use Rattle.std.proofs.Common.{◌≡◌, ℕ, zero, suc, ◌+◌, ◌*◌, ◌^◌, ◌<◌, ◌≤◌, Bool, true, false, ◌⊎◌, List, [], ◌∷◌, length, get_or, take, set, sum_by, sym, refl, ap, ◌∙◌, subst, inl, inr, add-one, arith}
use Rattle.std.proofs.lemmas.List.Sums.{sum_by-cons}
use Rattle.std.proofs.lemmas.List.{get_or-set_same, get_or-set_other, set_past, length-set, length-take-le, length-take}
use Rattle.std.proofs.lemmas.Bool.{cases_lt}
use Rattle.sums.specs.Sums.{upto, when}
use Rattle.sums.proofs.SumLaws.{upto_none, upto_at_most}
use Rattle.maps.specs.declared.product.Product.TheVariants.{ThirtyMinute, TenMinute, Spinning}
use Rattle.maps.specs.Market.{Market, MapLaw}
use Rattle.market.specs.Products.{Reserves}
use Rattle.market.specs.Prices.{Located, located, none_reserved, toward, quantity}
use Rattle.market.specs.Totals.{Totals, no_totals, counted, AtMost, plus, added, Tallies}
use Rattle.market.proofs.Beyond.{not_located, not_required}

toward_beyond : (m : Market) → MapLaw m → (k l : ℕ) (r : Reserves) → m.locations ≤ l → toward m k l r ≡ 0
toward_beyond m law k l r h = rw (not_located m law k ThirtyMinute l h, not_located m law k TenMinute l h, not_located m law k Spinning l h)

counted_plus : (m : Market) (k l : ℕ) (t : Totals) (r : Reserves) → counted m k l (plus t r) ≡ counted m k l t + toward m k l r
counted_plus m k l t r = go (m.counts k ThirtyMinute l) (m.counts k TenMinute l) (m.counts k Spinning l)
  where
    one : (b : Bool) (x y : ℕ) → when b (x + y) ≡ when b x + when b y
    one true x y = refl
    one false x y = refl

    go : (a b c : Bool) → when a (t.thirty + r.thirty) + when b (t.ten + r.ten) + when c (t.spinning + r.spinning)
        ≡ (when a t.thirty + when b t.ten + when c t.spinning) + (0 + when a r.thirty + when b r.ten + when c r.spinning)
    go a b c = omega (arith, one a t.thirty r.thirty, one b t.ten r.ten, one c t.spinning r.spinning)

quantity_more : (m : Market) (k : ℕ) (ls : List ℕ) (rs : List Reserves) (i : ℕ) → i < length ls → i < length rs
    → quantity m (take (suc i) ls) (take (suc i) rs) k ≡ quantity m (take i ls) (take i rs) k + toward m k (get_or ls i 0) (get_or rs i none_reserved)
quantity_more m k [] rs i h g = absurd (omega arith)
quantity_more m k (l ∷ ls) [] i h g = absurd (omega arith)
quantity_more m k (l ∷ ls) (r ∷ rs) zero h g = omega arith
quantity_more m k (l ∷ ls) (r ∷ rs) (suc i) h g =
    let f : Located → ℕ = λ x. toward m k x.place x.reserves in
    let a = sum_by-cons f (record { place = l; reserves = r }) (located (take (suc i) ls) (take (suc i) rs)) in
    let b = sum_by-cons f (record { place = l; reserves = r }) (located (take i ls) (take i rs)) in
    let ih = quantity_more m k ls rs i (omega arith) (omega arith) in
    omega arith

-- a sum over the places of a table, of which place l is set anew
module _ (g : ℕ → Totals → ℕ) (ts : List Totals) (l : ℕ) (v : Totals) where
  abbrev before : ℕ → ℕ
  before j = g j (get_or ts j no_totals)

  abbrev after : ℕ → ℕ
  after j = g j (get_or (set ts l v) j no_totals)

  other : (j : ℕ) → (j ≡ l → ⊥) → after j ≡ before j
  other j ne = ap (g j) (get_or-set_other ts l j v no_totals ne)

  sum_below : (n : ℕ) → n ≤ l → sum_by after (upto n) ≡ sum_by before (upto n)
  sum_below zero h = refl
  sum_below (suc n) h = omega (arith, sum_by-cons after n (upto n), sum_by-cons before n (upto n), other n (λ q. omega arith), sum_below n (omega arith))

  sum_at : (n : ℕ) → l < n → l < length ts → sum_by after (upto n) + before l ≡ sum_by before (upto n) + g l v
  sum_at zero h w = absurd (omega arith)
  sum_at (suc n) h w = elim (cases_lt l n) [
    | inl p ↦ omega (arith, sum_by-cons after n (upto n), sum_by-cons before n (upto n), other n (λ q. omega arith), sum_at n p w)
    | inr p ↦ (
        let z : l ≡ n = omega arith in
        let e : after l ≡ g l v = ap (g l) (get_or-set_same ts l v no_totals w) in
        omega (arith, sum_by-cons after n (upto n), sum_by-cons before n (upto n), ap after z, ap before z, sum_below n p))
  ]

module _ (m : Market) (law : MapLaw m) (k : ℕ) (ts : List Totals) (l : ℕ) (r : Reserves) where
  sum_added : length ts ≡ 16 → sum_by (λ j. counted m k j (get_or (added ts l r) j no_totals)) (upto m.locations) ≡ sum_by (λ j. counted m k j (get_or ts j no_totals)) (upto m.locations) + toward m k l r
  sum_added w = elim (cases_lt l m.locations) [
    | inl p ↦ (
        let f = law.few_locations in
        omega (arith, sum_at (counted m k) ts l (plus (get_or ts l no_totals) r) m.locations p (omega arith), counted_plus m k l (get_or ts l no_totals) r))
    | inr p ↦ omega (arith, sum_below (counted m k) ts l (plus (get_or ts l no_totals) r) m.locations p, toward_beyond m law k l r p)
  ]

at_most_added : (n : ℕ) (ts : List Totals) (l : ℕ) (r : Reserves) → r.thirty ≤ 2 ^ 32 → r.ten ≤ 2 ^ 32 → r.spinning ≤ 2 ^ 32 → AtMost n ts → AtMost (n + 2 ^ 32) (added ts l r)
at_most_added n ts l r a b c h j = go (cases_lt l (length ts)) (cases_lt j l) (cases_lt l j)
  where
    Small : Totals → Type 0
    Small t = (t.thirty ≤ n + 2 ^ 32) × (t.ten ≤ n + 2 ^ 32) × (t.spinning ≤ n + 2 ^ 32)

    old : ((get_or ts j no_totals).thirty ≤ n + 2 ^ 32) × ((get_or ts j no_totals).ten ≤ n + 2 ^ 32) × ((get_or ts j no_totals).spinning ≤ n + 2 ^ 32)
    old = let x = h j in (omega arith, omega arith, omega arith)

    new : ((plus (get_or ts l no_totals) r).thirty ≤ n + 2 ^ 32) × ((plus (get_or ts l no_totals) r).ten ≤ n + 2 ^ 32) × ((plus (get_or ts l no_totals) r).spinning ≤ n + 2 ^ 32)
    new = let x = h l in (omega arith, omega arith, omega arith)

    go : ((l < length ts) ⊎ (length ts ≤ l)) → ((j < l) ⊎ (l ≤ j)) → ((l < j) ⊎ (j ≤ l)) → ((get_or (added ts l r) j no_totals).thirty ≤ n + 2 ^ 32) × ((get_or (added ts l r) j no_totals).ten ≤ n + 2 ^ 32) × ((get_or (added ts l r) j no_totals).spinning ≤ n + 2 ^ 32)
    go (inr p) s u = rw (set_past ts l (plus (get_or ts l no_totals) r) p) old
    go (inl p) (inl s) u = rw (get_or-set_other ts l j (plus (get_or ts l no_totals) r) no_totals (λ q. omega arith)) old
    go (inl p) (inr s) (inl u) = rw (get_or-set_other ts l j (plus (get_or ts l no_totals) r) no_totals (λ q. omega arith)) old
    go (inl p) (inr s) (inr u) = let z : j ≡ l = omega arith in rw (z, get_or-set_same ts l (plus (get_or ts l no_totals) r) no_totals p) new

pub tallies_none : (ls : List ℕ) (rs : List Reserves) (ts : List Totals) → length ts ≡ 16 → ((j : ℕ) → get_or ts j no_totals ≡ no_totals) → Tallies (take 0 ls) (take 0 rs) ts
tallies_none ls rs ts w h = record { long = w; low = λ j. rw (h j) (omega arith, omega arith, omega arith); same = λ m law k. upto_none _ m.locations (λ j. rw (h j) (nothing m k j)) }
  where
    when_zero : (b : Bool) → when b 0 ≡ 0
    when_zero true = refl
    when_zero false = refl

    nothing : (m : Market) (k j : ℕ) → counted m k j no_totals ≡ 0
    nothing m k j = omega (arith, when_zero (m.counts k ThirtyMinute j), when_zero (m.counts k TenMinute j), when_zero (m.counts k Spinning j))

pub tallies_more : (ls : List ℕ) (rs : List Reserves) (ts : List Totals) (i : ℕ) → i < length ls → i < length rs
    → (get_or rs i none_reserved).thirty ≤ 2 ^ 32 → (get_or rs i none_reserved).ten ≤ 2 ^ 32 → (get_or rs i none_reserved).spinning ≤ 2 ^ 32
    → Tallies (take i ls) (take i rs) ts → Tallies (take (i + 1) ls) (take (i + 1) rs) (added ts (get_or ls i 0) (get_or rs i none_reserved))
tallies_more ls rs ts i h g a b c w =
    let r : Reserves = get_or rs i none_reserved in
    let l : ℕ = get_or ls i 0 in
    let n : length (take i ls) ≡ i = length-take-le i ls (omega arith) in
    let n' : length (take (i + 1) ls) ≡ i + 1 = length-take-le (i + 1) ls (omega arith) in
    let e : 2 ^ 32 * length (take i ls) + 2 ^ 32 ≡ 2 ^ 32 * length (take (i + 1) ls) = omega arith in
    record {
      long = length-set ts l (plus (get_or ts l no_totals) r) ∙ w.long;
      low = subst (λ (n : ℕ). AtMost n (added ts l r)) e (at_most_added (2 ^ 32 * length (take i ls)) ts l r a b c w.low);
      same = λ m law k. sum_added m law k ts l r w.long ∙ ap (λ (n : ℕ). n + toward m k l r) (w.same m law k) ∙ sym (rw add-one (quantity_more m k ls rs i h g));
    }

pub at_most_of : (ls : List ℕ) (rs : List Reserves) (ts : List Totals) → length ls ≤ 2 ^ 64 → Tallies ls rs ts → AtMost (2 ^ 96) ts
at_most_of ls rs ts h w l = let x = w.low l in (omega arith, omega arith, omega arith)

located_all : (i : ℕ) (ls : List ℕ) (rs : List Reserves) → ((length ls ≤ i) ⊎ (length rs ≤ i)) → located (take i ls) (take i rs) ≡ located ls rs
located_all i ls rs (inl h) = go i ls rs h
  where
    go : (i : ℕ) (ls : List ℕ) (rs : List Reserves) → length ls ≤ i → located (take i ls) (take i rs) ≡ located ls rs
    go zero [] rs h = refl
    go zero (l ∷ ls) rs h = absurd (omega arith)
    go (suc i) [] rs h = refl
    go (suc i) (l ∷ ls) [] h = refl
    go (suc i) (l ∷ ls) (r ∷ rs) h = ap (λ xs. record { place = l; reserves = r } ∷ xs) (go i ls rs (omega arith))
located_all i ls rs (inr h) = go i ls rs h
  where
    none : (ls : List ℕ) → located ls [] ≡ []
    none [] = refl
    none (l ∷ ls) = refl

    go : (i : ℕ) (ls : List ℕ) (rs : List Reserves) → length rs ≤ i → located (take i ls) (take i rs) ≡ located ls rs
    go zero ls [] h = sym (none ls)
    go zero ls (r ∷ rs) h = absurd (omega arith)
    go (suc i) [] rs h = refl
    go (suc i) (l ∷ ls) [] h = refl
    go (suc i) (l ∷ ls) (r ∷ rs) h = ap (λ xs. record { place = l; reserves = r } ∷ xs) (go i ls rs (omega arith))

pub tallies_all : (ls : List ℕ) (rs : List Reserves) (ts : List Totals) (i : ℕ) → ((length ls ≤ i) ⊎ (length rs ≤ i)) → Tallies (take i ls) (take i rs) ts → Tallies ls rs ts
tallies_all ls rs ts i h w = record {
  long = w.long;
  low = λ l. let x = w.low l in let n : length (take i ls) ≤ length ls = rw length-take (omega arith) in (omega arith, omega arith, omega arith);
  same = λ m law k. w.same m law k ∙ ap (λ (xs : List Located). sum_by (λ x. toward m k x.place x.reserves) xs) (located_all i ls rs h);
}

-- past the requirements nothing counts
pub quantity_beyond : (m : Market) → MapLaw m → (ls : List ℕ) (rs : List Reserves) (k : ℕ) → m.requirements ≤ k → 0 ≡ quantity m ls rs k
quantity_beyond m law ls rs k h = sym (go (located ls rs))
  where
    none : (l : ℕ) (r : Reserves) → toward m k l r ≡ 0
    none l r = rw (not_required m law k ThirtyMinute l h, not_required m law k TenMinute l h, not_required m law k Spinning l h)

    go : (xs : List Located) → sum_by (λ x. toward m k x.place x.reserves) xs ≡ 0
    go [] = refl
    go (x ∷ xs) = omega (arith, sum_by-cons (λ x. toward m k x.place x.reserves) x xs, none x.place x.reserves, go xs)

pub quantity_at_most : (ls : List ℕ) (rs : List Reserves) (ts : List Totals) → Tallies ls rs ts → (m : Market) → MapLaw m → (k : ℕ) → quantity m ls rs k ≤ 16 * (3 * (2 ^ 32 * length ls))
quantity_at_most ls rs ts w m law k =
    omega (arith, w.same m law k, upto_at_most (λ l. counted m k l (get_or ts l no_totals)) m.locations 16 (3 * (2 ^ 32 * length ls)) law.few_locations (λ l. all (m.counts k ThirtyMinute l) (m.counts k TenMinute l) (m.counts k Spinning l) (w.low l).0 (w.low l).1 (w.low l).2))
  where
    when_low : (b : Bool) (x : ℕ) → when b x ≤ x
    when_low true x = omega arith
    when_low false x = omega arith

    all : (a b c : Bool) {x y z n : ℕ} → x ≤ n → y ≤ n → z ≤ n → when a x + when b y + when c z ≤ 3 * n
    all a b c {x} {y} {z} {n} h i j = omega (arith, when_low a x, when_low b y, when_low c z)
