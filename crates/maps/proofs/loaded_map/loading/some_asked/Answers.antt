use Rattle.std.proofs.Common.{◌≡◌, ◌≢◌, rules}
use borrow.Author.Tests.{tests}
use Rattle.std.proofs.lemmas.Iterator.{cases_from_any, YieldsList-from_slice}
use Rattle.maps.proofs.Slots.{any_stand}
use Rattle.maps.proofs.loaded_map.loading.some_asked.Goals as goal

pub returns : goal.returns
returns c =
    any_stand c.args.masks.now c.any.result c.requires
    (cases_from_any _ _ _ (λ m. m ≢ 0) (λ m. m ≡ 0) c.any.ensures.ran (YieldsList-from_slice c.args.masks.now cc) (λ x q k. search (rules, tests)) (λ x q k. search (rules, tests)))
