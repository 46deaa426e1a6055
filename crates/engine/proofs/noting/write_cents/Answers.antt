use Rattle.std.proofs.Common.{◌≡◌, ℕ, ◌+◌, ◌<◌, List, [], ◌∷◌, ◌++◌, map, length, get_or, take, set, sym, ap, ◌∙◌, arith, length-set, w64, SFits, rules}
use Rattle.std.proofs.lemmas.List.{take_more_set, map_more}
use Rattle.std.proofs.lemmas.Int.{to_z-of_z}
use Rattle.engine.proofs.noting.write_cents.Goals as goal

module _ {X Y : Type 0} (f : X → Y) (xs : List X) where
  -- one more item, mapped into its place
  mapped_more : (out : List Y) (i : ℕ) (x : X) (y : Y) → i < length xs → i < length out → x ≡ get_or xs i x → y ≡ f x
      → take i out ≡ map f (take i xs) → take (i + 1) (set out i y) ≡ map f (take (i + 1) xs)
  mapped_more out i x y hx hy ex ey k =
      take_more_set out i y hy ∙ ap (λ t. t ++ (y ∷ [])) k ∙ ap (λ z. map f (take i xs) ++ (z ∷ [])) (ey ∙ ap f ex) ∙ sym (map_more f xs i x hx)

pub loop-i-preserved : goal.loop-i-preserved
loop-i-preserved g c =
    let fits : SFits w64 c.cents.result = search rules in (
      length-set _ _ _ ∙ c.loop-i.invariant.0,
      mapped_more g.A.Account.money c.args.accounts.now c.loop-i.room c.loop-i.i c.index-accounts-i.result _ (search rules) (omega arith) c.index-accounts-i.is (to_z-of_z w64 c.cents.result fits ∙ c.cents.ensures) c.loop-i.invariant.1,
    )
