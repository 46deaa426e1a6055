-- Ten steps up find every ancestor.
use Rattle.std.proofs.Common.{◌≡◌, ℕ, zero, suc, ◌<◌, ◌≤◌, true, eqb, ◌⊎◌, List, get_or, refl, ap, ◌∙◌, subst, inl, inr, arith}
use Rattle.std.proofs.lemmas.Bool.{eqb-true, eq-eqb, or_cases, or_left, or_right, cases_lt}
use Rattle.maps.specs.Tree.{covers, ParentsFall, AtOrAbove, itself, ancestor, TenStepsFindAncestors}

module _ (ps : List ℕ) (a : ℕ) where
  from_same : (b : ℕ) → a ≡ b → AtOrAbove ps a b
  from_same b e = subst (λ (x : ℕ). AtOrAbove ps a x) e itself

  found : (n b : ℕ) → covers ps n a b ≡ true → AtOrAbove ps a b
  found zero b t = from_same b (eqb-true a b t)
  found (suc n) b t = elim (or_cases (eqb a b) (covers ps n a (get_or ps b 0)) t) [
    | inl e ↦ from_same b (eqb-true a b e)
    | inr u ↦ ancestor (found n (get_or ps b 0) u)
  ]

  more_steps : (n b : ℕ) → covers ps n a b ≡ true → covers ps (suc n) a b ≡ true
  more_steps zero b t = or_left (eqb a b) _ t
  more_steps (suc n) b t = elim (or_cases (eqb a b) (covers ps n a (get_or ps b 0)) t) [
    | inl e ↦ or_left (eqb a b) _ e
    | inr u ↦ or_right (eqb a b) _ (more_steps n (get_or ps b 0) u)
  ]

  -- as many steps as the location's number are enough
  enough : (count : ℕ) → ParentsFall count ps → (b n : ℕ) → b < count → b ≤ n → AtOrAbove ps a b → covers ps n a b ≡ true
  enough count f b n l h itself = self n
    where
      self : (n : ℕ) → covers ps n a a ≡ true
      self zero = eq-eqb a a refl
      self (suc n) = or_left (eqb a a) _ (eq-eqb a a refl)
  enough count f b zero l h (ancestor x) =
      let z : get_or ps b 0 ≡ 0 = omega (arith, (f b l).0) in
      let e : b ≡ get_or ps b 0 = omega arith in
      ap (covers ps 0 a) e ∙ enough count f (get_or ps b 0) zero (omega arith) (omega arith) x
  enough count f b (suc n) l h (ancestor x) = or_right (eqb a b) _ (enough count f (get_or ps b 0) n (omega (arith, (f b l).0)) (step (cases_lt 0 b)) x)
    where
      step : ((0 < b) ⊎ (b ≤ 0)) → get_or ps b 0 ≤ n
      step (inl s) = omega (arith, (f b l).1 s)
      step (inr s) = omega (arith, (f b l).0)

pub ten_steps_find_ancestors_lem : TenStepsFindAncestors
ten_steps_find_ancestors_lem count ps few f a b l = (found ps a 10 b, enough ps a count f b 10 l (omega arith))
