use Rattle.std.proofs.Common.{◌≡◌, ℕ, Bool, true, ℤ, pos, ◌+ℤ◌, ap, ◌∙◌, w64, SFits, rules}
use Rattle.std.specs.Bool.{then_some}
use Rattle.std.proofs.lemmas.Int.{to_z-of_z}
use Rattle.market.specs.Prices.{none_reserved}
use Rattle.accounts.specs.declared.supplier.Supplier.{Supplier}
use Rattle.accounts.specs.Outcomes.{provided}
use Rattle.accounts.specs.Ranges.{supplier_fits}
use Rattle.sharing.specs.Shares.{whole, rest}
use Rattle.accounts.specs.Posting.{settle, settles}
use Rattle.accounts.proofs.Outcome.{then_some_is}
use Rattle.accounts.proofs.supplier.Supplier.settled.Goals as goal

-- an account with nothing posted in the hour in hand
abbrev paid : Supplier → ℤ → ℕ → Supplier
paid a cents held = record {
  number = a.number;
  location = a.location;
  kind = a.kind;
  upper = a.upper;
  response = a.response;
  cents = cents;
  held = held;
  hour = pos 0;
  ahead = none_reserved;
}

same_paid : (a : Supplier) (z z' : ℤ) (n n' : ℕ) → z ≡ z' → n ≡ n' → paid a z n ≡ paid a z' n'
same_paid a z z' n n' e f = ap (λ (x : ℤ). paid a x n) e ∙ ap (paid a z') f

-- an account in its ranges is settled if it stays there
settled_if : (a b : Supplier) (s : Bool) → supplier_fits a ≡ true → s ≡ supplier_fits b → b ≡ settle a → then_some s b ≡ provided (settles a) (settle a)
settled_if a b s fits e f = rw e (then_some_is (supplier_fits b) b ∙ rw fits (ap (λ (x : Supplier). provided (supplier_fits x) x) f))

pub returns : goal.returns
returns c =
    let a : Supplier = c.args.self.now in
    let fa : SFits w64 a.cents = search rules in
    let fu : SFits w64 c.unpaid-unpaid.result = search rules in
    let fw : SFits w64 c.whole_cents.result = search rules in
    let fs : SFits w64 c.in_ok-checked_add.field-0 = search rules in
    let w : c.whole_cents.result ≡ whole (pos a.held +ℤ a.hour) = simp to_z-of_z at c.whole_cents.ensures ∙ ap whole c.unpaid-unpaid.ensures in
    let n : c.rest_grains.result ≡ rest (pos a.held +ℤ a.hour) = simp to_z-of_z at c.rest_grains.ensures ∙ ap rest c.unpaid-unpaid.ensures in
    let s = simp to_z-of_z at c.in_ok-checked_add.ensures in
    let z : c.in_ok-checked_add.field-0 ≡ a.cents +ℤ whole (pos a.held +ℤ a.hour) = s.1 ∙ ap (λ (x : ℤ). a.cents +ℤ x) w in
    let next : c.forgotten-settled.result ≡ settle a = simp to_z-of_z at c.forgotten-settled.ensures ∙ same_paid a _ _ _ _ z n in
    let fits : supplier_fits a ≡ true = cc in
    c.then_some.ensures ∙ settled_if a c.forgotten-settled.result c.in_ranges-2.result fits c.in_ranges-2.ensures next
