use Rattle.std.proofs.Common.{◌≡◌, ◌+◌, ◌*◌, ◌^◌, ◌≤◌, drop, sum_by}
use Rattle.sums.specs.Sums.{when}
use Rattle.market.specs.Products.{amount_of}
use Rattle.market.specs.Prices.{products}
use Rattle.market.proofs.quantity.counting_toward.Given as goal

abbrev pub invariant-loop-product : goal.invariant-loop-product
invariant-loop-product g l =
    (l.product-items ≡ products)
    × (l.sum ≤ l.product-index * 2 ^ 96)
    × (l.sum + sum_by (λ p. when ((g.M.LocationMap.market l.map).counts l.requirement p l.location) (amount_of l.there p)) (drop l.product-index products)
    ≡ sum_by (λ p. when ((g.M.LocationMap.market l.map).counts l.requirement p l.location) (amount_of l.there p)) products)
