-- A loaded map keeps the law of maps, and two that hold the same reply alike.
use Rattle.std.specs.Prelude.{◌≡◌, ℕ, ◌*◌, ◌/◌, ◌%◌, ◌≤◌, Bool, true, ◌&&◌, leb, List, length, nat_le, nat_lt, slice_index}
use Rattle.std.proofs.Common.{arith}
use Rattle.std.proofs.lemmas.Bool.{and_parts, and_from, ltb-true, leb-true, le-leb}
use Rattle.maps.specs.Market.{MapLaw}
use Rattle.maps.specs.Tree.{wanted_at, requirement_slots, covers, loaded_market}
use Rattle.maps.specs.Slots.{slots_few}

-- a better product counts where a worse one does
better : (a b : Bool) (x : Bool) (s q r : ℕ) → q ≤ r → (a && (b && (x && nat_le s q))) ≡ true → (a && (b && (x && nat_le s r))) ≡ true
better a b x s q r h t =
    let p = and_parts a _ t in
    let u = and_parts b _ p.1 in
    let v = and_parts x _ u.1 in
    let l : leb s r ≡ true = le-leb s r (omega (arith, leb-true s q v.1)) in
    and_from a _ p.0 (and_from b _ u.0 (and_from x _ v.0 l))

pub loaded_lawful : (count : ℕ) (ps ms : List ℕ) → 1 ≤ count → count ≤ 10 → 1 ≤ length (requirement_slots count ms) → MapLaw (loaded_market count ps ms)
loaded_lawful count ps ms some few asks = record {
  some_requirement = asks;
  few_requirements = omega (arith, slots_few (wanted_at ms) (3 * count));
  some_location = some;
  few_locations = omega arith;
  within = λ k p l t. let a = and_parts (nat_lt k (length (requirement_slots count ms))) _ t in let b = and_parts (nat_lt l count) _ a.1 in (ltb-true k _ a.0, ltb-true l count b.0);
  ten_for_thirty = λ k l t. better (nat_lt k (length (requirement_slots count ms))) (nat_lt l count) (covers ps 10 (slice_index (requirement_slots count ms) k / 3) l) (slice_index (requirement_slots count ms) k % 3) 0 1 (omega arith) t;
  spinning_for_ten = λ k l t. better (nat_lt k (length (requirement_slots count ms))) (nat_lt l count) (covers ps 10 (slice_index (requirement_slots count ms) k / 3) l) (slice_index (requirement_slots count ms) k % 3) 1 2 (omega arith) t;
}
