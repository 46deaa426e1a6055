-- Prices and quantities worked out once for all locations.
use Rattle.std.specs.Prelude.{ℕ, List}
use Rattle.maps.specs.declared.product.Product.TheVariants.{ThirtyMinute, TenMinute, Spinning}
use Rattle.maps.specs.Market.{Market}
use Rattle.market.specs.Products.{ProductPrices}
use Rattle.market.specs.Prices.{price}

abbrev pub no_prices : ProductPrices
no_prices = record { thirty = 0; ten = 0; spinning = 0 }

abbrev pub prices_at_lem : Market → List ℕ → ℕ → ProductPrices
prices_at_lem m shadow l = record { thirty = price m shadow ThirtyMinute l; ten = price m shadow TenMinute l; spinning = price m shadow Spinning l }
