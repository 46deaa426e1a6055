-- Worked figures.
use Rattle.std.specs.Prelude.{◌≡◌, ℕ, List, [], ◌∷◌, ℤ, pos, neg_ℤ}
use Rattle.sharing.specs.Rule.{down, running}
use Rattle.sharing.specs.Shares.{shared, new_carry}

-- 100 cents and a half among three equal parts
abbrev pub hundred_and_half : ℤ
hundred_and_half = pos 3618000

abbrev pub thirds : List ℕ
thirds = 1 ∷ 1 ∷ 1 ∷ []

-- one cent to be paid back to two equal parts
abbrev pub cent_back : ℤ
cent_back = neg_ℤ (pos 36000)

abbrev pub halves : List ℕ
halves = 1 ∷ 1 ∷ []

pub record SharingFigures : Type 0 where
  pub down_thirds : shared down hundred_and_half thirds ≡ pos 33 ∷ pos 33 ∷ pos 33 ∷ []
  pub down_thirds_carry : new_carry hundred_and_half (shared down hundred_and_half thirds) ≡ pos 54000
  pub running_thirds : shared running hundred_and_half thirds ≡ pos 33 ∷ pos 33 ∷ pos 34 ∷ []
  pub running_thirds_carry : new_carry hundred_and_half (shared running hundred_and_half thirds) ≡ pos 18000
  pub down_halves : shared down cent_back halves ≡ neg_ℤ (pos 1) ∷ neg_ℤ (pos 1) ∷ []
  pub down_halves_carry : new_carry cent_back (shared down cent_back halves) ≡ pos 36000
  pub running_halves : shared running cent_back halves ≡ neg_ℤ (pos 1) ∷ pos 0 ∷ []
  pub running_halves_carry : new_carry cent_back (shared running cent_back halves) ≡ pos 0
