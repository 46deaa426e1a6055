-- Worked figures, through the definitions that the contracts of the code cite.
use Rattle.std.specs.Prelude.{◌≡◌, List, [], ◌∷◌, ℕ}
use Rattle.curves.specs.declared.step.Step.{Step}
use Rattle.curves.specs.Value.{value_at}
use Rattle.maps.specs.declared.product.Product.TheVariants.{ThirtyMinute, Spinning}
use Rattle.maps.specs.Fixed.{fixed_market}
use Rattle.market.specs.Prices.{price}

abbrev step : ℕ → ℕ → Step
step margin price = record { margin = margin; price = price }

-- the demand curve of the total thirty-minute requirement
abbrev pub total_thirty_minute : List Step
total_thirty_minute = step 9550 75000 ∷ step 6550 20000 ∷ step 3000 10000 ∷ step 0 2500 ∷ []

-- SP1 300, SP2 200, SP3 100, SP4 50, all others 0
abbrev pub shadow_prices_lem : List ℕ
shadow_prices_lem = 300 ∷ 200 ∷ 100 ∷ 50 ∷ []

pub record Figures : Type 0 where
  -- a step holds at its bound, and no further
  pub first_step : value_at total_thirty_minute 26200 16650 ≡ 75000
  pub second_step : value_at total_thirty_minute 26200 16651 ≡ 20000
  pub over_target : value_at total_thirty_minute 26200 26201 ≡ 0
  pub no_target : value_at total_thirty_minute 0 0 ≡ 2500
  -- locations 0 West, 1 East
  pub eastern_spinning : price fixed_market shadow_prices_lem Spinning 1 ≡ 650
  pub western_spinning : price fixed_market shadow_prices_lem Spinning 0 ≡ 600
  pub eastern_thirty : price fixed_market shadow_prices_lem ThirtyMinute 1 ≡ 350
