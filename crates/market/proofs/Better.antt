-- Better reserve is never cheaper, since it counts wherever worse does.
use Rattle.std.proofs.Common.{get_or}
use Rattle.sums.specs.Sums.{upto}
use Rattle.sums.proofs.SumLaws.{sum_by_mono, when_mono}
use Rattle.maps.specs.declared.product.Product.TheVariants.{ThirtyMinute, TenMinute, Spinning}
use Rattle.maps.specs.Market.{Market, MapLaw}
use Rattle.market.specs.Laws.{BetterNeverCheaper}

pub better_never_cheaper : (m : Market) → MapLaw m → BetterNeverCheaper m
better_never_cheaper m law = record {
  ten_thirty = λ shadow l. sum_by_mono _ _ (λ k. when_mono (m.counts k ThirtyMinute l) (m.counts k TenMinute l) (get_or shadow k 0) (law.ten_for_thirty k l)) (upto m.requirements);
  spinning_ten = λ shadow l. sum_by_mono _ _ (λ k. when_mono (m.counts k TenMinute l) (m.counts k Spinning l) (get_or shadow k 0) (law.spinning_for_ten k l)) (upto m.requirements);
}
