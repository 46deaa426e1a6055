-- The fixed map, as the tariff prints it: each clearing price is a sum of the shadow prices SP1 to SP15.
use Rattle.std.specs.Prelude.{ℕ, ◌+◌, Bool, false, ◌||◌, List, [], ◌∷◌, ◌==◌, slice_index_or}
use Rattle.maps.specs.declared.product.Product.{Product}
use Rattle.maps.specs.Market.{Market, quality_of}

-- the shadow prices in the clearing price of thirty-minute, ten-minute and spinning reserve
abbrev pub west : List (List ℕ)
west =
    (1 ∷ [])
    ∷ (1 ∷ 2 ∷ [])
    ∷ (1 ∷ 2 ∷ 3 ∷ [])
    ∷ []

abbrev pub east : List (List ℕ)
east =
    (1 ∷ 4 ∷ [])
    ∷ (1 ∷ 2 ∷ 4 ∷ 5 ∷ [])
    ∷ (1 ∷ 2 ∷ 3 ∷ 4 ∷ 5 ∷ 6 ∷ [])
    ∷ []

abbrev pub southeast : List (List ℕ)
southeast =
    (1 ∷ 4 ∷ 7 ∷ [])
    ∷ (1 ∷ 2 ∷ 4 ∷ 5 ∷ 7 ∷ 8 ∷ [])
    ∷ (1 ∷ 2 ∷ 3 ∷ 4 ∷ 5 ∷ 6 ∷ 7 ∷ 8 ∷ 9 ∷ [])
    ∷ []

abbrev pub new_york_city : List (List ℕ)
new_york_city =
    (1 ∷ 4 ∷ 7 ∷ 10 ∷ [])
    ∷ (1 ∷ 2 ∷ 4 ∷ 5 ∷ 7 ∷ 8 ∷ 10 ∷ 11 ∷ [])
    ∷ (1 ∷ 2 ∷ 3 ∷ 4 ∷ 5 ∷ 6 ∷ 7 ∷ 8 ∷ 9 ∷ 10 ∷ 11 ∷ 12 ∷ [])
    ∷ []

abbrev pub long_island : List (List ℕ)
long_island =
    (1 ∷ 4 ∷ 7 ∷ 13 ∷ [])
    ∷ (1 ∷ 2 ∷ 4 ∷ 5 ∷ 7 ∷ 8 ∷ 13 ∷ 14 ∷ [])
    ∷ (1 ∷ 2 ∷ 3 ∷ 4 ∷ 5 ∷ 6 ∷ 7 ∷ 8 ∷ 9 ∷ 13 ∷ 14 ∷ 15 ∷ [])
    ∷ []

abbrev pub formulae : List (List (List ℕ))
formulae = west ∷ east ∷ southeast ∷ new_york_city ∷ long_island ∷ []

abbrev pub member : ℕ → List ℕ → Bool
member n [] = false
member n (x ∷ xs) = n == x || member n xs

-- requirement k is that of SP(k + 1)
abbrev pub fixed_counts : ℕ → Product → ℕ → Bool
fixed_counts k p l = member (k + 1) (slice_index_or (slice_index_or formulae l []) (quality_of p) [])

abbrev pub fixed_market : Market
fixed_market = record { requirements = 15; locations = 5; counts = fixed_counts }
