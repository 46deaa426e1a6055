-- Amounts of each reserve product.
use Rattle.std.specs.Prelude.{ℕ}
use Rattle.maps.specs.declared.product.Product.{Product}
use Rattle.maps.specs.declared.product.Product.TheVariants.{ThirtyMinute, TenMinute, Spinning}
use Rattle.market.specs.declared.per_product.PerProduct.{PerProduct}

-- reserves in tenths of a MW
abbrev pub Reserves : Type 0
Reserves = PerProduct ℕ

-- prices in cents per MW and hour
abbrev pub ProductPrices : Type 0
ProductPrices = PerProduct ℕ

-- the amount of one product
abbrev pub amount_of : {T : Type 0} → PerProduct T → Product → T
amount_of x ThirtyMinute = x.thirty
amount_of x TenMinute = x.ten
amount_of x Spinning = x.spinning
