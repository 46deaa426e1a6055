-- Once a check has accepted, the write does to every account what the rules say.
use Rattle.std.proofs.Common.{◌≡◌, ℕ, ◌+◌, Bool, true, ◌&&◌, List, [], ◌∷◌, map, length, ℤ, refl, ap, ◌∙◌, arith}
use Rattle.std.proofs.lemmas.Bool.{cond-true}
use Rattle.faults.specs.declared.fault.Fault.{Fault}
use Rattle.faults.specs.declared.fault.Fault.TheVariants.{AccountRange}
use Rattle.sums.specs.Sums.{each}
use Rattle.sums.specs.Verdict.{accept, want, scan, scan_one}
use Rattle.sums.proofs.Verdicts.{both, wanted}
use Rattle.sums.proofs.Walks.{scan_same}
use Rattle.market.specs.Products.{Reserves}
use Rattle.accounts.specs.declared.supplier.Supplier.{Supplier}
use Rattle.accounts.specs.declared.schedule.ScheduleRow.{ScheduleRow}
use Rattle.accounts.specs.declared.customer.Customer.{Customer}
use Rattle.accounts.specs.declared.posting.Terms.{Terms}
use Rattle.accounts.specs.Posting.{stays, settles, settle, chargeable, charge}
use Rattle.accounts.specs.Ranges.{supplier_fits}
use Rattle.accounts.specs.Terms.{post_by}
use Rattle.books.specs.Changes.{change_each, posted_or, settled_or, charged_or}

-- f is g wherever the check accepts
module _ {X Y : Type 0} (ok : X → Y → Bool) (f : ℕ → Fault) (change g : X → Y → X) (same : (x : X) (y : Y) → ok x y ≡ true → change x y ≡ g x y) where
  changed_accepted : (k : ℕ) (xs : List X) (ys : List Y) → length ys ≡ length xs → scan ok f k xs ys ≡ accept → change_each change xs ys ≡ each g xs ys
  changed_accepted k [] ys h e = refl
  changed_accepted k (x ∷ xs) [] h e = absurd (omega arith)
  changed_accepted k (x ∷ xs) (y ∷ ys) h e =
      let b = both (want (ok x y) (f k)) (scan ok f (k + 1) xs ys) e in
      ap (λ (z : X). z ∷ change_each change xs ys) (same x y (wanted (ok x y) (f k) b.0))
      ∙ ap (λ (zs : List X). g x y ∷ zs) (changed_accepted (k + 1) xs ys (omega arith) b.1)

module _ {X : Type 0} (ok : X → Bool) (f : ℕ → Fault) (change g : X → X) (same : (x : X) → ok x ≡ true → change x ≡ g x) where
  map_accepted : (k : ℕ) (xs : List X) → scan_one ok f k xs ≡ accept → map change xs ≡ map g xs
  map_accepted k [] e = refl
  map_accepted k (x ∷ xs) e =
      let b = both (want (ok x) (f k)) (scan_one ok f (k + 1) xs) e in
      ap (λ (z : X). z ∷ map change xs) (same x (wanted (ok x) (f k) b.0))
      ∙ ap (λ (zs : List X). g x ∷ zs) (map_accepted (k + 1) xs b.1)

-- by the reserves of rows, or by the rows themselves
each_reserves : (post : Supplier → Reserves → Supplier) (xs : List Supplier) (rows : List ScheduleRow)
    → each (λ a w. post a w.reserves) xs rows ≡ each post xs (map (λ w. w.reserves) rows)
each_reserves post [] rows = refl
each_reserves post (x ∷ xs) [] = refl
each_reserves post (x ∷ xs) (w ∷ rows) = ap (λ (zs : List Supplier). post x w.reserves ∷ zs) (each_reserves post xs rows)

module _ (t : Terms) (post : Supplier → Reserves → Supplier) (posts : (a : Supplier) (r : Reserves) → post_by t a r ≡ post a r) where
  -- the check by the terms is the check by the rule that they keep
  pub posts_alike : (k : ℕ) (xs : List Supplier) (rows : List ScheduleRow) → scan (stays (post_by t)) AccountRange k xs rows ≡ scan (stays post) AccountRange k xs rows
  posts_alike k xs rows = scan_same (stays (post_by t)) (stays post) AccountRange (λ a w. ap (λ (b : Supplier). supplier_fits a && supplier_fits b) (posts a w.reserves)) k xs rows

  pub each_posted : (xs : List Supplier) (rows : List ScheduleRow) → length rows ≡ length xs → scan (stays post) AccountRange 0 xs rows ≡ accept
      → change_each (posted_or t) xs rows ≡ each post xs (map (λ w. w.reserves) rows)
  each_posted xs rows h e =
      changed_accepted (stays (post_by t)) AccountRange (posted_or t) (λ a w. post a w.reserves) (λ a w q. cond-true _ _ _ q ∙ posts a w.reserves) 0 xs rows h (posts_alike 0 xs rows ∙ e)
      ∙ each_reserves post xs rows

pub map_settled : (xs : List Supplier) → scan_one settles AccountRange 0 xs ≡ accept → map settled_or xs ≡ map settle xs
map_settled xs e = map_accepted settles AccountRange settled_or settle (λ a q. cond-true _ _ _ q) 0 xs e

pub each_charged : (xs : List Customer) (shares : List ℤ) → length shares ≡ length xs → scan chargeable AccountRange 0 xs shares ≡ accept → change_each charged_or xs shares ≡ each charge xs shares
each_charged xs shares h e = changed_accepted chargeable AccountRange charged_or charge (λ c s q. cond-true _ _ _ q) 0 xs shares h e
