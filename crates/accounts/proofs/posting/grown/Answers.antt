use Rattle.std.proofs.Common.{◌≡◌, ℕ, ◌*◌, ◌^◌, ◌<◌, ◌≤◌, true, false, ℤ, pos, ◌+ℤ◌, ◌*ℤ◌, neg_ℤ, nat_abs, None, ap, ◌∙◌, inl, inr, mul-le-mul, mul-one, arith, w64, SFits, to_z, of_z}
use lib.Signed.{le_z}
use mir.Syntax.{w128}
use Rattle.std.proofs.lemmas.Int.{ints, to_z-of_z, to_z_pos}
use Rattle.std.proofs.lemmas.Bool.{and_parts, cases_Bool}
use Rattle.sums.proofs.Sizes.{abs_times}
use Rattle.accounts.specs.Outcomes.{provided}
use Rattle.accounts.specs.Ranges.{most_amount, amount_fits_lem}
use Rattle.accounts.proofs.posting.grown.Goals as goal

-- what is this far from 0 is past the range, whatever is added
past : (h g : ℤ) → SFits w64 h → 2 ^ 90 < nat_abs g → amount_fits_lem (h +ℤ g) ≡ false
past h g f n = elim (cases_Bool (amount_fits_lem (h +ℤ g))) [
  | inl t ↦ absurd (within t)
  | inr e ↦ e
]
  where
    within : amount_fits_lem (h +ℤ g) ≡ true → ⊥
    within t =
        let p = and_parts (le_z (neg_ℤ (pos most_amount)) (h +ℤ g)) (le_z (h +ℤ g) (pos most_amount)) t in
        let a : le_z (neg_ℤ (pos most_amount)) (h +ℤ g) ≡ true = p.0 in
        let b : le_z (h +ℤ g) (pos most_amount) ≡ true = p.1 in
        omega (arith, ints)

-- so are the earnings of some seconds, if those of one are
far : (x : ℤ) (n : ℕ) → 2 ^ 90 < nat_abs x → 0 < n → 2 ^ 90 < nat_abs (x *ℤ pos n)
far x n h k =
    let size : nat_abs (x *ℤ pos n) ≡ nat_abs x * n = abs_times x (pos n) in
    let grows : nat_abs x * 1 ≤ nat_abs x * n = let same : nat_abs x ≤ nat_abs x = omega arith in mul-le-mul same k in
    let one = mul-one (nat_abs x) in
    omega arith

none : (h x : ℤ) (n : ℕ) → SFits w64 h → 2 ^ 90 < nat_abs x → 0 < n → None ≡ provided (amount_fits_lem (h +ℤ x *ℤ pos n)) (h +ℤ x *ℤ pos n)
none h x n f k l = rw (past h (x *ℤ pos n) f (far x n k l))

fits : (x : ℤ) (n : ℕ) → nat_abs x ≤ 2 ^ 90 → n < 2 ^ 32 → SFits w128 (x *ℤ pos n)
fits x n h k =
    let size : nat_abs (x *ℤ pos n) ≡ nat_abs x * n = abs_times x (pos n) in
    let most : nat_abs x * n ≤ 2 ^ 90 * 2 ^ 32 = let k' : n ≤ 2 ^ 32 = omega arith in mul-le-mul h k' in
    omega (arith, ints)

-- the product as the code computes it
product : (x : ℤ) (n : ℕ) → SFits w128 x → n < 2 ^ 32 → to_z w128 (of_z w128 x) *ℤ to_z w128 n ≡ x *ℤ pos n
product x n f h = ap (λ (z : ℤ). z *ℤ to_z w128 n) (to_z-of_z w128 x f) ∙ ap (λ (z : ℤ). x *ℤ z) (to_z_pos w128 n (omega arith))

pub returns-then-unsigned_abs-gt-MOST_EARNED : goal.returns-then-unsigned_abs-gt-MOST_EARNED
returns-then-unsigned_abs-gt-MOST_EARNED c =
    let f : SFits w128 c.args.in_second = c.ranges.in_second in
    let size : c.unsigned_abs.result ≡ nat_abs c.args.in_second = simp to_z-of_z at c.unsigned_abs.ensures.value in
    none c.args.amount c.args.in_second c.args.seconds c.ranges.amount (omega arith) (omega arith)

pub overflow_mul-in_second : goal.overflow_mul-in_second
overflow_mul-in_second c =
    let f : SFits w128 c.args.in_second = c.ranges.in_second in
    let size : c.unsigned_abs.result ≡ nat_abs c.args.in_second = simp to_z-of_z at c.unsigned_abs.ensures.value in
    let few : nat_abs c.args.in_second ≤ 2 ^ 90 = omega arith in
    rw (product c.args.in_second c.args.seconds f (omega arith)) (fits c.args.in_second c.args.seconds few (omega arith))

pub returns : goal.returns
returns c =
    let f : SFits w128 c.args.in_second = c.ranges.in_second in
    let fa : SFits w64 c.args.amount = c.ranges.amount in
    let size : c.unsigned_abs.result ≡ nat_abs c.args.in_second = simp to_z-of_z at c.unsigned_abs.ensures.value in
    let few : nat_abs c.args.in_second ≤ 2 ^ 90 = omega arith in
    let fp = fits c.args.in_second c.args.seconds few (omega arith) in
    let is : to_z w128 (of_z w128 (to_z w128 (of_z w128 c.args.in_second) *ℤ to_z w128 c.args.seconds)) ≡ c.args.in_second *ℤ pos c.args.seconds =
    ap (λ (z : ℤ). to_z w128 (of_z w128 z)) (product c.args.in_second c.args.seconds f (omega arith)) ∙ to_z-of_z w128 _ fp in
    c.added-2.ensures
    ∙ ap (λ (z : ℤ). provided (amount_fits_lem (to_z w64 (of_z w64 c.args.amount) +ℤ z)) (to_z w64 (of_z w64 c.args.amount) +ℤ z)) is
    ∙ ap (λ (h : ℤ). provided (amount_fits_lem (h +ℤ c.args.in_second *ℤ pos c.args.seconds)) (h +ℤ c.args.in_second *ℤ pos c.args.seconds)) (to_z-of_z w64 c.args.amount fa)
