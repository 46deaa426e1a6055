-- Lists of accounts under posting, settling and charging.
use Rattle.std.proofs.Common.{◌≡◌, ℕ, suc, List, [], ◌∷◌, map, length, ℤ, pos, ◌+ℤ◌, ◌*ℤ◌, refl, ap, ◌∙◌, arith}
use borrow.Author.Differences.{ints}
use Rattle.sums.specs.Sums.{sum_z, each}
use Rattle.sums.proofs.Ring.{distr_l}
use Rattle.sums.proofs.Floors.{floor_divides_lem}
use Rattle.sums.proofs.SumLaws.{sum_map, sum_scale_r}
use Rattle.maps.specs.Market.{Market}
use Rattle.market.specs.Products.{Reserves}
use Rattle.market.specs.Prices.{worth, amounts, over}
use Rattle.market.specs.Laws.{total, earned, earned_over}
use Rattle.sharing.specs.Shares.{grains_per_cent, whole, rest}
use Rattle.accounts.specs.declared.supplier.Supplier.{Supplier}
use Rattle.accounts.specs.declared.customer.Customer.{Customer}
use Rattle.accounts.specs.Posting.{post_clearing, post_interval, settle, charge}
use Rattle.law.specs.Ledger.{places, aheads, hour_seconds}
use Rattle.law.specs.Tally.{add, for_seconds}
use Rattle.law.specs.Law.{owed}

-- ---- two lists joined place by place
module _ {A B C : Type 0} (g : A → B → C) where
  pub length_each : (xs : List A) (ys : List B) → length ys ≡ length xs → length (each g xs ys) ≡ length xs
  length_each [] ys n = refl
  length_each (x ∷ xs) [] n = absurd (omega arith)
  length_each (x ∷ xs) (y ∷ ys) n = ap suc (length_each xs ys (omega arith))

  -- what depends on the left list alone, and on the right one alone
  pub map_each : {D : Type 0} (f : C → D) (h : A → D) → ((a : A) (b : B) → f (g a b) ≡ h a) → (xs : List A) (ys : List B) → length ys ≡ length xs → map f (each g xs ys) ≡ map h xs
  map_each f h e [] ys n = refl
  map_each f h e (x ∷ xs) [] n = absurd (omega arith)
  map_each f h e (x ∷ xs) (y ∷ ys) n = cc (e x y, map_each f h e xs ys (omega arith))

  pub map_each_right : {D : Type 0} (f : C → D) (h : B → D) → ((a : A) (b : B) → f (g a b) ≡ h b) → (xs : List A) (ys : List B) → length ys ≡ length xs → map f (each g xs ys) ≡ map h ys
  map_each_right f h e [] [] n = refl
  map_each_right f h e [] (y ∷ ys) n = absurd (omega arith)
  map_each_right f h e (x ∷ xs) [] n = absurd (omega arith)
  map_each_right f h e (x ∷ xs) (y ∷ ys) n = cc (e x y, map_each_right f h e xs ys (omega arith))

pub total_added : (xs ys : List ℤ) → length ys ≡ length xs → total (each add xs ys) ≡ total xs +ℤ total ys
total_added [] [] n = refl
total_added [] (y ∷ ys) n = absurd (omega arith)
total_added (x ∷ xs) [] n = absurd (omega arith)
total_added (x ∷ xs) (y ∷ ys) n = omega (arith, ints, total_added xs ys (omega arith))

pub total_for : (n : ℕ) (zs : List ℤ) → total (for_seconds n zs) ≡ total zs *ℤ pos n
total_for n zs = sum_map (λ z. z) (λ z. z *ℤ pos n) zs ∙ sum_scale_r (pos n) (λ z. z) zs

pub length_over : (m : Market) (shadow ls : List ℕ) (real ahead : List Reserves) → length real ≡ length ls → length ahead ≡ length ls → length (earned_over m shadow ls real ahead) ≡ length ls
length_over m shadow [] real ahead p q = refl
length_over m shadow (l ∷ ls) [] ahead p q = absurd (omega arith)
length_over m shadow (l ∷ ls) (r ∷ real) [] p q = absurd (omega arith)
length_over m shadow (l ∷ ls) (r ∷ real) (a ∷ ahead) p q = ap suc (length_over m shadow ls real ahead (omega arith) (omega arith))

-- ---- the grains of the hour
abbrev pub hours : List Supplier → List ℤ
hours xs = map (λ a. a.hour) xs

module _ (m : Market) (shadow : List ℕ) where
  pub clearing_hours : (xs : List Supplier) (rs : List Reserves) → hours xs ≡ map (λ l. pos 0) (places xs)
      → hours (each (post_clearing m shadow) xs rs) ≡ for_seconds hour_seconds (earned m shadow (places xs) rs)
  clearing_hours [] rs e = refl
  clearing_hours (x ∷ xs) [] e = refl
  clearing_hours (x ∷ xs) (r ∷ rs) e =
      let z : x.hour ≡ pos 0 = cc in
      let zs : hours xs ≡ map (λ (l : ℕ). pos 0) (places xs) = cc in
      let w : ℤ = worth m shadow x.location (amounts r) *ℤ pos hour_seconds in
      let h : x.hour +ℤ w ≡ w = omega (arith, ints) in
      cc (h, clearing_hours xs rs zs)

  pub interval_hours : (d : ℕ) (xs : List Supplier) (rs : List Reserves)
      → hours (each (post_interval m shadow d) xs rs) ≡ each add (hours xs) (for_seconds d (earned_over m shadow (places xs) rs (aheads xs)))
  interval_hours d [] rs = refl
  interval_hours d (x ∷ xs) [] = refl
  interval_hours d (x ∷ xs) (r ∷ rs) =
      ap (λ zs. (x.hour +ℤ worth m shadow x.location (over r x.ahead) *ℤ pos d) ∷ zs) (interval_hours d xs rs)

-- ---- settling and charging
settled : (a : Supplier) → owed (settle a) ≡ owed a +ℤ a.hour
settled a =
    let z : ℤ = pos a.held +ℤ a.hour in
    let K : ℤ = pos grains_per_cent in
    let e = (floor_divides_lem z grains_per_cent (omega arith)).0 in
    cc (distr_l K a.cents (whole z), lin (K *ℤ a.cents) (K *ℤ whole z) (pos (rest z)) (pos a.held) a.hour e)
  where
    lin : (c w r h z : ℤ) → w +ℤ r ≡ h +ℤ z → (c +ℤ w) +ℤ r ≡ (c +ℤ h) +ℤ z
    lin c w r h z e = omega (arith, ints)

pub settled_all : (xs : List Supplier) → map owed (map settle xs) ≡ each add (map owed xs) (hours xs)
settled_all [] = refl
settled_all (x ∷ xs) = cc (settled x, settled_all xs)

pub charged_cents : (cs : List Customer) (zs : List ℤ) → map (λ c. c.cents) (each charge cs zs) ≡ each add (map (λ c. c.cents) cs) zs
charged_cents [] zs = refl
charged_cents (c ∷ cs) [] = refl
charged_cents (c ∷ cs) (z ∷ zs) = ap (λ (q : List ℤ). (c.cents +ℤ z) ∷ q) (charged_cents cs zs)

pub sum_charged : (cs : List Customer) (zs : List ℤ) → length zs ≡ length cs → sum_z (λ c. c.cents) (each charge cs zs) ≡ sum_z (λ c. c.cents) cs +ℤ total zs
sum_charged [] [] n = refl
sum_charged [] (z ∷ zs) n = absurd (omega arith)
sum_charged (c ∷ cs) [] n = absurd (omega arith)
sum_charged (c ∷ cs) (z ∷ zs) n = omega (arith, ints, sum_charged cs zs (omega arith))
