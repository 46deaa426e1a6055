-- Every run keeps the law.
use Rattle.std.proofs.Common.{◌≡◌, ℕ, ◌+◌, ◌*◌, ◌≤◌, Bool, true, false, ◌||◌, List, [], ◌∷◌, ◌++◌, map, length, ℤ, pos, ◌+ℤ◌, neg_ℤ, nat_abs, ◌≤ℤ◌, ◌<ℤ◌, Ok, Err, sum, sym, refl, ap, ◌∙◌, subst, add_assoc, arith, length-append}
use lib.ListN.{length-map}
use borrow.Author.Differences.{ints}
use Rattle.std.proofs.lemmas.Bool.{both_ways}
use Rattle.faults.specs.declared.fault.Fault.{Fault}
use Rattle.sums.specs.Sums.{each}
use Rattle.sums.specs.Verdict.{Verdict, accept, accepts}
use Rattle.sums.proofs.Floors.{floor_at_most, floor_above}
use Rattle.maps.specs.Market.{Market, MapLaw}
use Rattle.curves.specs.declared.step.Step.{Step as CurveStep}
use Rattle.market.specs.Products.{Reserves}
use Rattle.market.specs.Prices.{quantity, cost, cost_over_lem}
use Rattle.market.specs.Claims.{most_shadow_price, WithinCurves}
use Rattle.market.proofs.Better.{better_never_cheaper}
use Rattle.sharing.specs.Rule.{Rule, Fair, InRange, most_cents}
use Rattle.sharing.specs.Shares.{grains_per_cent, whole, shared, new_carry, WellShared}
use Rattle.sharing.proofs.Law.{sharing_law}
use Rattle.accounts.specs.declared.supplier.Supplier.{Supplier}
use Rattle.accounts.specs.declared.customer.Customer.{Customer}
use Rattle.accounts.specs.declared.schedule.ScheduleRow.{ScheduleRow}
use Rattle.accounts.specs.declared.withdrawal.WithdrawalRow.{WithdrawalRow}
use Rattle.accounts.specs.Enrolment.{new_supplier, new_customer}
use Rattle.accounts.specs.Posting.{post_clearing, post_interval, settle, forget, charge}
use Rattle.law.specs.Ledger.{opened, State, new, Args, enrol_supplier, enrol_customer, open_hour, clear, interval, close, void, hour_seconds, places, aheads, schedules, nets, grains_due, charges, after}
use Rattle.accounts.specs.Limits.{most_suppliers, most_customers}
use Rattle.law.specs.Verdicts.{verdict}
use Rattle.law.specs.Run.{leaves, Step, Fed, Run, fresh, more}
use Rattle.law.specs.Tally.{Tally, Hour, not_cleared, cleared_at, add, hour_cost, tally}
use Rattle.law.specs.Law.{is_close, any_closed, Carried, Priced, grains_of, Lawful, Kept, RunsKeep}
use Rattle.law.proofs.Books.{length_each, charged_cents}
use Rattle.law.proofs.Bounds.{cost_most, over_most, grown_within}
use Rattle.law.proofs.Accepted.{row_most, ScheduleTaken, WithdrawalsTaken, Accepted, accepted}
use Rattle.law.proofs.Balance.{SameStage, Agrees, start, one_step, balances, in_hand}

-- the most that a second costs, in grains
abbrev pub second_most : ℕ
second_most = 32 * (most_shadow_price * (most_suppliers * row_most))

module _ (m : Market) (law : MapLaw m) (xs : List Supplier) (few : length xs ≤ most_suppliers) (shadow targets : List ℕ) (curves : List (List CurveStep)) (rows : List ScheduleRow) (taken : ScheduleTaken m xs shadow targets curves rows) where
  few_places : length (places xs) ≤ most_suppliers
  few_places = let e = length-map xs (λ (a : Supplier). a.location) in omega arith

  pub clearing_cost : nat_abs (cost m shadow (places xs) (schedules rows)) ≤ second_most
  clearing_cost = cost_most m shadow (places xs) 32 most_shadow_price most_suppliers row_most law.few_requirements taken.priced few_places (schedules rows) taken.small

  pub interval_cost : nat_abs (cost_over_lem m shadow (places xs) (schedules rows) (aheads xs)) ≤ second_most
  interval_cost = over_most m shadow (places xs) 32 most_shadow_price most_suppliers row_most law.few_requirements taken.priced few_places (schedules rows) (aheads xs) taken.small taken.small_ahead

-- ---- the ranges that a run stays in
pub record Ranges (closed : Bool) (s : State) : Type 0 where
  pub suppliers : length s.suppliers ≤ most_suppliers
  pub customers : length s.customers ≤ most_customers
  pub seconds : s.seconds ≤ hour_seconds
  -- a clearing counts as a whole hour, and each interval as its seconds
  pub cost : nat_abs s.cost ≤ second_most * (hour_seconds + s.seconds)
  pub carry : Carried closed s

carry_within : (closed : Bool) (s : State) → Carried closed s → length s.customers ≤ most_customers → nat_abs s.carry ≤ grains_per_cent * most_customers
carry_within true s h n =
    let a = h.not_negative refl in
    let b = h.below_a_cent_each refl in
    omega (arith, ints)
carry_within false s h n = let e = h.none_yet refl in omega (arith, ints)

-- the cents of an hour are within what a rule shares
pub cents_within : (c k : ℤ) (seconds : ℕ) → nat_abs c ≤ second_most * (hour_seconds + seconds) → seconds ≤ hour_seconds → nat_abs k ≤ grains_per_cent * most_customers
    → (neg_ℤ (pos most_cents) ≤ℤ (whole (c +ℤ k))) × ((whole (c +ℤ k)) ≤ℤ (pos most_cents))
cents_within c k seconds h p q =
    let x = floor_at_most (c +ℤ k) grains_per_cent (omega arith) in
    let y = floor_above (c +ℤ k) grains_per_cent (omega arith) in
    (omega (arith, ints), omega (arith, ints))

pub closing_in_range : (c k : ℤ) (ys : List Customer) (settled : ℕ) (rows : List WithdrawalRow)
    → nat_abs c ≤ second_most * (hour_seconds + settled) → nat_abs k ≤ grains_per_cent * most_customers → WithdrawalsTaken ys settled rows → InRange (whole (c +ℤ k)) (sum (nets rows))
closing_in_range c k ys settled rows h q ok =
    let e = ok.complete in
    let T = cents_within c k settled h (omega arith) q in
    record { some = ok.some; not_too_much = ok.not_too_much; low = T.0; high = T.1 }

well_shared : (r : Rule) → Fair r → (closed : Bool) (s : State) → Ranges closed s → (rows : List WithdrawalRow) → WithdrawalsTaken s.customers s.seconds rows
    → WellShared (grains_due s) (nets rows) (charges r s rows) (new_carry (grains_due s) (charges r s rows))
well_shared r fair closed s g rows ok =
    (sharing_law r fair).inside (grains_due s) (nets rows) (closing_in_range s.cost s.carry s.customers s.seconds rows g.cost (carry_within closed s g.carry g.customers) ok)

-- a call that leaves the carry
same_carry : (closed : Bool) (s s' : State) → s'.carry ≡ s.carry → length s.customers ≤ length s'.customers → Carried closed s → Carried closed s'
same_carry closed s s' e n h = record {
  none_yet = λ f. e ∙ h.none_yet f;
  not_negative = λ f. let a = h.not_negative f in omega (arith, ints);
  below_a_cent_each = λ f. let a = h.below_a_cent_each f in omega (arith, ints);
}

-- before the clearing there is no cost
no_cost : (m : Market) (t : Tally) (s : State) → Agrees m t s → s.stage ≡ opened → s.cost ≡ pos 0
no_cost m t s inv e = go t.hour inv.cost (rw e at inv.stage)
  where
    go : (h : Hour) → s.cost ≡ hour_cost m (places s.suppliers) h → SameStage opened h → s.cost ≡ pos 0
    go not_cleared c i = c
    go (cleared_at shadow ahead is) c i = absurd i

zero_within : (n : ℕ) → nat_abs (pos 0) ≤ n
zero_within n = omega arith

one_longer : {X : Type 0} (xs : List X) (x : X) → length (xs ++ (x ∷ [])) ≡ length xs + 1
one_longer xs x = length-append xs (x ∷ [])

module _ (m : Market) (law : MapLaw m) (r : Rule) (fair : Fair r) (closed : Bool) (t : Tally) (s : State) (inv : Agrees m t s) (g : Ranges closed s) where
  ranges_step : (a : Args) → Accepted m s a → Ranges (is_close a || closed) (after m r s a)
  ranges_step (enrol_supplier number location kind upper response) ok =
      let n = one_longer s.suppliers (new_supplier number location kind upper response) in
      let h = ok.1 in
      record { suppliers = omega arith; customers = g.customers; seconds = omega arith; cost = zero_within _; carry = same_carry closed s _ refl (omega arith) g.carry }
  ranges_step (enrol_customer number) ok =
      let n = one_longer s.customers (new_customer number) in
      let h = ok.1 in
      record { suppliers = g.suppliers; customers = omega arith; seconds = omega arith; cost = zero_within _; carry = same_carry closed s _ refl (omega arith) g.carry }
  ranges_step (open_hour hour) ok =
      record { suppliers = g.suppliers; customers = g.customers; seconds = omega arith; cost = zero_within _; carry = same_carry closed s _ refl (omega arith) g.carry }
  ranges_step (clear shadow targets curves rows) ok =
      let sheet = ok.1 in
      let n = length_each (post_clearing m shadow) s.suppliers (schedules rows) sheet.whole_book in
      let h = g.suppliers in
      let c = clearing_cost m law s.suppliers h shadow targets curves rows sheet in
      record {
        suppliers = omega arith;
        customers = g.customers;
        seconds = omega arith;
        cost = grown_within s.cost (cost m shadow (places s.suppliers) (schedules rows)) second_most 0 hour_seconds (none (no_cost m t s inv ok.0)) c;
        carry = same_carry closed s _ refl (omega arith) g.carry;
      }
    where
      none : {c : ℤ} → c ≡ pos 0 → nat_abs c ≤ second_most * 0
      none {c} e = omega (arith, ints)
  ranges_step (interval seconds shadow targets curves rows) ok =
      let sheet = ok.1 in
      let n = length_each (post_interval m shadow seconds) s.suppliers (schedules rows) sheet.whole_book in
      let h = g.suppliers in
      let x : ℤ = cost_over_lem m shadow (places s.suppliers) (schedules rows) (aheads s.suppliers) in
      let c = interval_cost m law s.suppliers h shadow targets curves rows sheet in
      record {
        suppliers = omega arith;
        customers = g.customers;
        seconds = ok.2;
        cost = rw (← add_assoc hour_seconds s.seconds seconds) (grown_within s.cost x second_most (hour_seconds + s.seconds) seconds g.cost c);
        carry = same_carry closed s _ refl (omega arith) g.carry;
      }
  ranges_step (close rows) ok =
      let w = well_shared r fair closed s g rows ok.1 in
      let n = length_each charge s.customers (charges r s rows) (w.one_each ∙ ok.1.whole_book) in
      let k = length-map s.suppliers settle in
      let e : length (nets rows) ≡ length (each charge s.customers (charges r s rows)) = ok.1.whole_book ∙ sym n in
      let L = g.suppliers in
      let C = g.customers in
      record {
        suppliers = omega arith;
        customers = omega arith;
        seconds = omega arith;
        cost = zero_within _;
        carry = record {
          none_yet = λ f. absurd (both_ways true f refl);
          not_negative = λ f. w.carry_not_negative;
          below_a_cent_each = λ f. subst (λ (l : ℕ). (new_carry (grains_due s) (charges r s rows)) <ℤ (pos (grains_per_cent * l))) e w.carry_below;
        };
      }
  ranges_step void ok =
      let k = length-map s.suppliers forget in
      let L = g.suppliers in
      record { suppliers = omega arith; customers = g.customers; seconds = omega arith; cost = zero_within _; carry = same_carry closed s _ refl (omega arith) g.carry }

  -- ---- what each accepted call owes
  same_grains : grains_due s ≡ grains_of m t s
  same_grains = ap (λ (c : ℤ). c +ℤ s.carry) (in_hand m t s inv g.seconds).reckoned

  priced : (shadow targets : List ℕ) (curves : List (List CurveStep)) (rs : List Reserves) → WithinCurves m shadow targets curves (quantity m (places s.suppliers) rs) → Priced m t.places shadow targets curves rs
  priced shadow targets curves rs h = record {
    within = subst (λ (l : List ℕ). WithinCurves m shadow targets curves (quantity m l rs)) inv.located h;
    better = better_never_cheaper m law;
  }

  lawful : (a : Args) → Accepted m s a → Lawful m r t s a (after m r s a)
  lawful (enrol_supplier number location kind upper response) ok = tt
  lawful (enrol_customer number) ok = tt
  lawful (open_hour hour) ok = tt
  lawful (clear shadow targets curves rows) ok = priced shadow targets curves (schedules rows) ok.1.within
  lawful (interval seconds shadow targets curves rows) ok = priced shadow targets curves (schedules rows) ok.1.within
  lawful (close rows) ok = record {
    by_rule = charged_cents s.customers (charges r s rows) ∙ ap (λ (q : ℤ). each add (map (λ c. c.cents) s.customers) (shared r q (nets rows))) same_grains;
    well_shared = subst (λ (q : ℤ). WellShared q (nets rows) (shared r q (nets rows)) (after m r s (close rows)).carry) same_grains (well_shared r fair closed s g rows ok.1);
  }
  lawful void ok = tt

-- ---- the run
module _ (m : Market) (law : MapLaw m) (r : Rule) (fair : Fair r) where
  abbrev Both : Tally → Bool → State → Type 0
  Both t closed s = Agrees m t s × Ranges closed s

  at_first : (a b : ℕ) → Both (tally m []) false (new a b)
  at_first a b = (
    start m a b,
    record {
      suppliers = omega arith;
      customers = omega arith;
      seconds = omega arith;
      cost = zero_within _;
      carry = record { none_yet = λ e. refl; not_negative = λ e. omega (arith, ints); below_a_cent_each = λ e. absurd (both_ways false refl e) };
    },
  )

  step_keeps : (log : List Fed) (s : State) (a : Args) → Both (tally m log) (any_closed log) s → (v : Verdict Fault) → verdict m r s a ≡ v
      → Both (tally m (record { args = a; accepted = accepts v } ∷ log)) (any_closed (record { args = a; accepted = accepts v } ∷ log)) (leaves m r s a v)
  step_keeps log s a b (Ok u) e =
      let ok = accepted m r s a e in
      (one_step m r s (tally m log) a b.0 ok, ranges_step m law r fair (any_closed log) (tally m log) s b.0 b.1 a ok)
  step_keeps log s a b (Err f) e = b

  pub run_within : {log : List Fed} {s : State} → Run m r log s → Both (tally m log) (any_closed log) s
  run_within (fresh {a} {b}) = at_first a b
  run_within (more {log = log} {s = s} {a = a} {v = v} run one) =
      let b = step_keeps log s a (run_within run) v (sym one.answer) in
      subst (Both (tally m (record { args = a; accepted = accepts v } ∷ log)) (any_closed (record { args = a; accepted = accepts v } ∷ log)))
      (sym (one.left ∙ ap (leaves m r s a) (sym one.answer))) b

  step_lawful : (t : Tally) (closed : Bool) (s s' : State) (a : Args) → Both t closed s → Step m r s a accept s' → Lawful m r t s a s'
  step_lawful t closed s s' a b one =
      subst (Lawful m r t s a) (sym (one.left ∙ ap (leaves m r s a) (sym one.answer))) (lawful m law r fair closed t s b.0 b.1 a (accepted m r s a (sym one.answer)))

  pub runs_keep : (log : List Fed) (s : State) → Run m r log s → Kept m r log s
  runs_keep log s run =
      let b = run_within run in
      record {
        balanced = balances m (tally m log) s b.0;
        in_hand = in_hand m (tally m log) s b.0 b.1.seconds;
        carried = b.1.carry;
        next = λ a s' one. step_lawful (tally m log) (any_closed log) s s' a b one;
      }

pub every_run : (m : Market) (r : Rule) → RunsKeep m r
every_run m r law fair = runs_keep m law r fair
