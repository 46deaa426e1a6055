-- The way from a location up to its ancestors.
use Rattle.std.proofs.Common.{◌≡◌, ℕ, zero, suc, ◌<◌, ◌≤◌, Bool, true, false, List, get_or, arith}
use Rattle.std.proofs.lemmas.Bool.Decides.{nat_tests}
use Rattle.maps.specs.Tree.{covers}

pub same : (ps : List ℕ) (a b : ℕ) → a ≡ b → (n : ℕ) → true ≡ covers ps n a b
same ps a b e zero = grind (arith, nat_tests)
same ps a b e (suc n) = grind (arith, nat_tests)

pub root : (ps : List ℕ) (a b : ℕ) → get_or ps 0 0 ≤ 0 → b ≡ 0 → (a ≡ b → ⊥) → (n : ℕ) → false ≡ covers ps n a b
root ps a b z e ne zero = grind (arith, nat_tests)
root ps a b z e ne (suc n) =
    let p : get_or ps b 0 ≡ b = rw e (omega arith) in
    let i = root ps a b z e ne n in
    rw p (grind (arith, nat_tests))

pub up : (ps : List ℕ) (a b : ℕ) (r : Bool) → (a ≡ b → ⊥) → get_or ps b 0 < b
    → ((n : ℕ) → get_or ps b 0 ≤ n → r ≡ covers ps n a (get_or ps b 0)) → (n : ℕ) → b ≤ n → r ≡ covers ps n a b
up ps a b r ne f g zero l = absurd (omega arith)
up ps a b r ne f g (suc n) l = let i = g n (omega arith) in grind (arith, nat_tests)
