-- The locations of a loaded map as the arrays that a map is loaded from.
use Rattle.std.specs.Prelude.{ℕ, List, map}
use Rattle.maps.specs.declared.place.Place.{Place}

-- the parent of each location, by the location's number
abbrev pub parents_of : List Place → List ℕ
parents_of ps = map (λ p. p.parent) ps

-- the mask of each
abbrev pub masks_of : List Place → List ℕ
masks_of ps = map (λ p. p.mask) ps
