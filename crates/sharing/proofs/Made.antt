-- What sharing out makes is what its contract says.
use Rattle.std.proofs.Common.{◌≡◌, ℕ, ◌*◌, ◌≤◌, List, length, ℤ, pos, ◌+ℤ◌, ◌*ℤ◌, ◌≤ℤ◌, ◌<ℤ◌, sum, sym, ap, ◌∙◌, subst, inl, inr, arith, w64, SFits}
use Rattle.bounded.specs.Bounded.{Bounded}
use Rattle.std.proofs.lemmas.Int.{ints}
use Rattle.std.proofs.lemmas.Bool.{cases_Bool, both_ways}
use Rattle.sharing.specs.Rule.{Rule, in_range_lem, Fair}
use Rattle.sharing.specs.Shares.{grains_per_cent, whole, shares, shared, total, new_carry, WellShared}
use Rattle.sharing.specs.SharedOut.{most_shares, SharedOut}
use Rattle.sharing.specs.Rules.{in_range_true, true_in_range}
use Rattle.sharing.proofs.Law.{kept, sharing_law}

-- ---- the carry
-- what the shares leave is the new carry
carry_is : (G k : ℤ) (ys zs : List ℤ) → total ys ≡ total zs → pos grains_per_cent *ℤ total ys +ℤ k ≡ G → k ≡ new_carry G zs
carry_is G k ys zs e q = lin G (total ys) (total zs) k (new_carry G zs) e q (kept G zs)
  where
    lin : (g s t j k : ℤ) → s ≡ t → pos grains_per_cent *ℤ s +ℤ j ≡ g → pos grains_per_cent *ℤ t +ℤ k ≡ g → j ≡ k
    lin g s t j k e p q = omega (arith, ints)

-- it fits, since it is small, or else all the grains
carry_fits : (r : Rule) → Fair r → (G : ℤ) (ws : List ℕ) → SFits w64 G → length ws ≤ most_shares → SFits w64 (new_carry G (shared r G ws))
carry_fits r fair G ws f h = elim (cases_Bool (in_range_lem (whole G) (sum ws))) [
  | inl t ↦ (let w = (sharing_law r fair).inside G ws (true_in_range (whole G) (sum ws) t) in small _ (length ws) h w.carry_not_negative w.carry_below)
  | inr t ↦ (let w = (sharing_law r fair).outside G ws (λ g. both_ways _ t (in_range_true (whole G) (sum ws) g)) in subst (SFits w64) (sym w.1) f)
]
  where
    small : (k : ℤ) (n : ℕ) → n ≤ most_shares → pos 0 ≤ℤ k → k <ℤ pos (grains_per_cent * n) → SFits w64 k
    small k n h a b = omega (arith, ints)

-- ---- all together
pub made : (r : Rule) → Fair r → (G : ℤ) (ws : List ℕ) → SFits w64 G → length ws ≤ most_shares
    → (T : ℤ) → T ≡ whole G
    → (zs : Bounded ℤ) → zs.items ≡ shares r T 0 (sum ws) ws → (k : ℤ) → pos grains_per_cent *ℤ total zs.items +ℤ k ≡ G
    → SharedOut r G ws (record { cents = zs; carry = k }) × SFits w64 k
made r fair G ws f h T t zs e k q =
    let due : List ℤ = shared r G ws in
    let z : zs.items ≡ due = e ∙ ap (λ (x : ℤ). shares r x 0 (sum ws) ws) t in
    let c : k ≡ new_carry G due = carry_is G k zs.items due (ap total z) q in (
      record {
        value = z;
        carry = c;
        law = λ g. subst (λ (l : List ℤ). WellShared G ws l k) (sym z) (subst (WellShared G ws due) (sym c) ((sharing_law r fair).inside G ws g));
        kept = q;
      },
      subst (SFits w64) (sym c) (carry_fits r fair G ws f h),
    )
