-- A tree of locations, each with a mask of the products that have a requirement there.
use Rattle.std.specs.Prelude.{◌≡◌, ℕ, zero, suc, ◌*◌, ◌/◌, ◌%◌, ◌^◌, ◌<◌, ◌≤◌, Bool, true, cond, ◌&&◌, ◌||◌, List, [], ◌∷◌, ◌++◌, length, ◌==◌, nat_le, nat_lt, slice_index}
use Rattle.faults.specs.declared.fault.Fault.{Fault}
use Rattle.faults.specs.declared.fault.Fault.TheVariants.{MapArrays}
use Rattle.sums.specs.Verdict.{Verdict, ◌then◌, want, every}
use Rattle.maps.specs.declared.product.Product.{Product}
use Rattle.maps.specs.Market.{Market, quality_of, SameMarket}
use Rattle.maps.specs.Fixed.{fixed_market}

-- ---- requirements
-- the mask asks for the product of number q
abbrev pub has_bit_lem : ℕ → ℕ → Bool
has_bit_lem mask q = mask / 2 ^ q % 2 == 1

-- slot j is product j % 3 at location j / 3: whether a requirement stands there
abbrev pub wanted_at : List ℕ → ℕ → Bool
wanted_at masks j = has_bit_lem (slice_index masks (j / 3)) (j % 3)

-- the numbers below n that pass the test, in rising order
abbrev pub slots : (ℕ → Bool) → ℕ → List ℕ
slots test zero = []
slots test (suc n) = slots test n ++ cond (test n) (n ∷ []) []

-- the slots of the requirements, by location, then by product
abbrev pub requirement_slots : ℕ → List ℕ → List ℕ
requirement_slots count masks = slots (wanted_at masks) (3 * count)

-- ---- the tree
-- a is b, or is met on the way of at most n steps from b to parents
abbrev pub covers : List ℕ → ℕ → ℕ → ℕ → Bool
covers parents zero a b = a == b
covers parents (suc n) a b = a == b || covers parents n a (slice_index parents b)

-- location 0 is its own parent; any other's has a smaller number
abbrev pub ParentsFall : ℕ → List ℕ → Type 0
ParentsFall count parents = (b : ℕ) → b < count → (slice_index parents b ≤ b) × (0 < b → slice_index parents b < b)

-- ---- the map
-- the requirement at slot s counts product p at location l where the slot's location is l or an ancestor of l, and
-- p is at least as good as the slot's product. No way to the root of ten locations is longer than ten steps.
abbrev pub slot_counts : List ℕ → ℕ → Product → ℕ → Bool
slot_counts parents s p l = covers parents 10 (s / 3) l && nat_le (s % 3) (quality_of p)

abbrev pub loaded_counts : ℕ → List ℕ → List ℕ → ℕ → Product → ℕ → Bool
loaded_counts count parents masks k p l =
    nat_lt k (length (requirement_slots count masks)) && (nat_lt l count && slot_counts parents (slice_index (requirement_slots count masks) k) p l)

abbrev pub loaded_market : ℕ → List ℕ → List ℕ → Market
loaded_market count parents masks = record {
  requirements = length (requirement_slots count masks);
  locations = count;
  counts = loaded_counts count parents masks;
}

-- ---- loading
abbrev pub parent_fits : ℕ → ℕ → Bool
parent_fits parent b = cond (b == 0) (parent == 0) (nat_lt parent b)

-- location b has a parent as described and a mask of three bits
abbrev pub is_placed_lem : List ℕ → List ℕ → ℕ → Bool
is_placed_lem parents masks b = parent_fits (slice_index parents b) b && nat_le (slice_index masks b) 7

-- there are 1 to 10 locations, and each array has one entry for each
abbrev pub sizes_fit : ℕ → ℕ → ℕ → Bool
sizes_fit count parents masks = nat_lt 0 count && (nat_le count 10 && (parents == count && masks == count))

-- the arrays make a map, or which location is refused; that no mask asks for anything is found last
abbrev pub map_verdict : ℕ → List ℕ → List ℕ → Verdict Fault
map_verdict count parents masks =
    want (sizes_fit count (length parents) (length masks)) (MapArrays count)
    then every (is_placed_lem parents masks) MapArrays 0 count
    then want (nat_lt 0 (length (requirement_slots count masks))) (MapArrays count)

-- ---- the fixed map as a tree: West is the root, then East, then Southeast, and below it New York City and Long Island
abbrev pub fixed_parents : List ℕ
fixed_parents = 0 ∷ 0 ∷ 1 ∷ 2 ∷ 2 ∷ []

abbrev pub fixed_masks : List ℕ
fixed_masks = 7 ∷ 7 ∷ 7 ∷ 7 ∷ 7 ∷ []

abbrev pub TreeRepliesAsFixed : Type 0
TreeRepliesAsFixed = SameMarket (loaded_market 5 fixed_parents fixed_masks) fixed_market

-- ---- ancestors, without counting steps
-- a is b itself or an ancestor of b
pub data AtOrAbove (parents : List ℕ) (a : ℕ) : ℕ → Type 0 where
  itself : AtOrAbove parents a a
  ancestor : {b : ℕ} → AtOrAbove parents a (slice_index parents b) → AtOrAbove parents a b

-- in a tree of at most ten locations, ten steps up find every ancestor and nothing else
abbrev pub TenStepsFindAncestors : Type 0
TenStepsFindAncestors = (count : ℕ) (parents : List ℕ) → count ≤ 10 → ParentsFall count parents → (a b : ℕ) → b < count
    → (covers parents 10 a b ≡ true → AtOrAbove parents a b) × (AtOrAbove parents a b → covers parents 10 a b ≡ true)
