-- What an accepted load shows.
use Rattle.std.proofs.Common.{◌≡◌, ℕ, ◌<◌, ◌≤◌, true, ltb, List, length, get_or, sym, refl, ap, ◌∙◌, arith}
use Rattle.std.proofs.lemmas.Bool.Decides.{nat_tests}
use Rattle.faults.specs.declared.fault.Fault.TheVariants.{MapArrays}
use Rattle.sums.specs.Verdict.{accept, every}
use Rattle.sums.proofs.Verdicts.{both, wanted, every_held}
use Rattle.maps.specs.Market.{Market, SameMarket}
use Rattle.std.proofs.lemmas.List.{length-map}
use Rattle.maps.specs.declared.place.Place.{Place}
use Rattle.maps.specs.Places.{parents_of}
use Rattle.maps.specs.Tree.{requirement_slots, ParentsFall, map_verdict, sizes_fit, is_placed_lem}

pub record Accepted (count : ℕ) (ps ms : List ℕ) : Type 0 where
  pub some : 1 ≤ count
  pub few : count ≤ 10
  pub parents : length ps ≡ count
  pub masks : length ms ≡ count
  pub falls : ParentsFall count ps
  pub asks : 1 ≤ length (requirement_slots count ms)

pub accepted : (count : ℕ) (ps ms : List ℕ) → accept ≡ map_verdict count ps ms → Accepted count ps ms
accepted count ps ms h =
    let a = both _ _ (sym h) in
    let b = both _ _ a.1 in
    let sizes : sizes_fit count (length ps) (length ms) ≡ true = wanted _ _ a.0 in
    let asked : ltb 0 (length (requirement_slots count ms)) ≡ true = wanted _ _ b.1 in
    record {
      some = grind (arith, nat_tests);
      few = grind (arith, nat_tests);
      parents = grind (arith, nat_tests);
      masks = grind (arith, nat_tests);
      falls = λ l s. let p : is_placed_lem ps ms l ≡ true = every_held (is_placed_lem ps ms) MapArrays 0 count b.0 l (omega arith) (omega arith) in (grind (arith, nat_tests), λ z. grind (arith, nat_tests));
      asks = grind (arith, nat_tests);
    }

-- where each location is placed, the masks are of three bits
pub three_bits : (ps ms : List ℕ) → accept ≡ every (is_placed_lem ps ms) MapArrays 0 (length ps) → length ms ≡ length ps → (k : ℕ) → k < length ms → get_or ms k 0 ≤ 7
three_bits ps ms h e k l =
    let p : is_placed_lem ps ms k ≡ true = every_held (is_placed_lem ps ms) MapArrays 0 (length ps) (sym h) k (omega arith) (omega arith) in
    grind (arith, nat_tests)

-- there are as many locations as parents
pub as_many : (ps : List Place) (parents : List ℕ) (count : ℕ) → parents_of ps ≡ parents → length parents ≡ count → length ps ≡ count
as_many ps parents count e n = sym (length-map ps (λ (p : Place). p.parent)) ∙ ap length e ∙ n

pub same_itself : (m : Market) → SameMarket m m
same_itself m = record { requirements = refl; locations = refl; counts = λ k p l. refl }
