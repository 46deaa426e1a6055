-- Chains of checks: what acceptance shows, and how a loop makes a check.
use Rattle.std.proofs.Common.{◌≡◌, ℕ, zero, suc, ◌+◌, ◌-◌, ◌<◌, ◌≤◌, Bool, true, false, Ok, Err, refl, ap, inl, inr, eq-or-lt_of_le, arith}
use Rattle.std.proofs.lemmas.Bool.{both_ways}
use Rattle.sums.specs.Verdict.{Verdict, accept, accepts, ◌then◌, want, every}
use Rattle.sums.specs.Laws.{FirstFailureTold}

module _ {F : Type 0} where
  pub never : {X : Type 0} (f : F) → ◌≡◌ {A = Verdict F} (Err f) accept → X
  never f e = let z : ◌≡◌ {A = ℕ} 0 1 = cc in absurd (omega arith)

  pub both : (u v : Verdict F) → (u then v) ≡ accept → (u ≡ accept) × (v ≡ accept)
  both (Ok u) v e = (refl, e)
  both (Err f) v e = never f e

  pub wanted : (b : Bool) (f : F) → want b f ≡ accept → b ≡ true
  wanted true f e = refl
  wanted false f e = never f e

  pub stop : (v w : Verdict F) (f : F) → v ≡ Err f → (v then w) ≡ Err f
  stop v w f e = ap (λ u. u then w) e

  pub pass : (v w : Verdict F) → v ≡ accept → (v then w) ≡ w
  pass v w e = ap (λ u. u then w) e

  pub accepted : (v : Verdict F) → accepts v ≡ true → v ≡ accept
  accepted (Ok u) e = refl
  accepted (Err f) e = absurd (both_ways false refl e)

-- ---- numbers from k on: the loop's invariant is `every ok f i (n - i) ≡ every ok f 0 n`
module _ {F : Type 0} (ok : ℕ → Bool) (f : ℕ → F) where
  pub every_step : (i n : ℕ) → i < n → every ok f i (n - i) ≡ (want (ok i) (f i) then every ok f (i + 1) (n - (i + 1)))
  every_step i n h = let e : n - i ≡ suc (n - (i + 1)) = omega arith in rw e

  pub every_bad : (i n : ℕ) → i < n → ok i ≡ false → every ok f i (n - i) ≡ Err (f i)
  every_bad i n h q = rw (every_step i n h, q)

  pub every_good : (i n : ℕ) → i < n → ok i ≡ true → every ok f i (n - i) ≡ every ok f (i + 1) (n - (i + 1))
  every_good i n h q = rw (every_step i n h, q)

  pub every_end : (i n : ℕ) → n ≤ i → every ok f i (n - i) ≡ accept
  every_end i n h = let e : n - i ≡ 0 = omega arith in rw e

  -- what acceptance shows
  pub every_held : (k n : ℕ) → every ok f k n ≡ accept → (i : ℕ) → k ≤ i → i < k + n → ok i ≡ true
  every_held k zero e i h l = absurd (omega arith)
  every_held k (suc n) e i h l =
      let b = both (want (ok k) (f k)) (every ok f (k + 1) n) e in
      elim (eq-or-lt_of_le h) [
        | inl q ↦ rw (← q) (wanted (ok k) (f k) b.0)
        | inr s ↦ every_held (k + 1) n b.1 i (omega arith) (omega arith)
      ]

  every_all : (k n : ℕ) → ((i : ℕ) → k ≤ i → i < k + n → ok i ≡ true) → every ok f k n ≡ accept
  every_all k zero h = refl
  every_all k (suc n) h = rw (h k (omega arith) (omega arith)) (every_all (k + 1) n (λ i a b. h i (omega arith) (omega arith)))

  every_first : (k n i : ℕ) → k ≤ i → i < k + n → ((j : ℕ) → k ≤ j → j < i → ok j ≡ true) → ok i ≡ false → every ok f k n ≡ Err (f i)
  every_first k zero i h l before q = absurd (omega arith)
  every_first k (suc n) i h l before q =
      elim (eq-or-lt_of_le h) [
        | inl e ↦ (let z : ok k ≡ false = rw e q in rw z (ap (λ (j : ℕ). Err (f j)) e))
        | inr s ↦ (let t : ok k ≡ true = before k (omega arith) s in rw t (every_first (k + 1) n i (omega arith) (omega arith) (λ j a b. before j (omega arith) b) q))
      ]

-- two tests that agree up to a number at which both fail refuse alike, however many numbers follow
pub every_cut : {F : Type 0} (p q : ℕ → Bool) (f : ℕ → F) (k d n m : ℕ) → d < n → d < m
    → ((i : ℕ) → k ≤ i → i < k + d → p i ≡ q i) → p (k + d) ≡ false → q (k + d) ≡ false → every p f k n ≡ every q f k m
every_cut p q f k d zero m h l same a b = absurd (omega arith)
every_cut p q f k d (suc n) zero h l same a b = absurd (omega arith)
every_cut p q f k zero (suc n) (suc m) h l same a b =
    let e : k + 0 ≡ k = omega arith in
    let a' : p k ≡ false = rw e at a in
    let b' : q k ≡ false = rw e at b in
    rw (a', b')
every_cut p q f k (suc d) (suc n) (suc m) h l same a b =
    let e : k + suc d ≡ k + 1 + d = omega arith in
    let here : p k ≡ q k = same k (omega arith) (omega arith) in
    let rest = every_cut p q f (k + 1) d n m (omega arith) (omega arith) (λ i u v. same i (omega arith) (omega arith)) (rw e at a) (rw e at b) in
    rw (here, rest)

pub first_failure_told : (F : Type 0) → FirstFailureTold F
first_failure_told F ok f n = (
  λ h. every_all ok f 0 n (λ i a b. h i (omega arith)),
  λ i l before q. every_first ok f 0 n i (omega arith) (omega arith) (λ j a b. before j b) q,
)
