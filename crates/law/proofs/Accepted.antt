-- What the acceptance of a call shows.
use Rattle.std.proofs.Common.{◌≡◌, ℕ, ◌+◌, ◌-◌, ◌*◌, ◌<◌, ◌≤◌, min, true, false, eqb, List, [], ◌∷◌, length, get_or, sum, refl, ◌∙◌, inl, inr, arith}
use lib.ListN.{length-map}
use Rattle.std.proofs.lemmas.List.{get_or_past}
use Rattle.std.proofs.lemmas.Bool.{and_parts, leb-true, ltb-true, eqb-true, both_ways, cases_lt}
use Rattle.faults.specs.declared.fault.Fault.{Fault}
use Rattle.faults.specs.declared.fault.Fault.TheVariants.{WrongStage, BookFull, SheetLength, BeyondCapability, RequirementCount, PriceOrTargetOutOfRange, AccountRange, IntervalLength, HourIncomplete, WithdrawalTotal}
use Rattle.sums.specs.Verdict.{Verdict, accept, ◌then◌, want, scan, every}
use Rattle.sums.proofs.Verdicts.{both, wanted, every_held}
use Rattle.maps.specs.Market.{Market}
use Rattle.curves.specs.declared.step.Step.{Step}
use Rattle.market.specs.Products.{Reserves}
use Rattle.market.specs.Prices.{quantity}
use Rattle.market.specs.Claims.{most_shadow_price, counts_verdict, claim_in_range, price_verdict, WithinCurves}
use Rattle.market.proofs.Within.{within_curves}
use Rattle.sharing.specs.Rule.{Rule, most_parts}
use Rattle.accounts.specs.declared.supplier.Kind.{Kind}
use Rattle.accounts.specs.declared.supplier.Kind.TheVariants.{Synchronized, NotSynchronized}
use Rattle.accounts.specs.declared.supplier.Supplier.{Supplier}
use Rattle.accounts.specs.declared.customer.Customer.{Customer}
use Rattle.accounts.specs.declared.schedule.ScheduleRow.{ScheduleRow}
use Rattle.accounts.specs.declared.withdrawal.WithdrawalRow.{WithdrawalRow}
use Rattle.accounts.specs.Enrolment.{most_tenths}
use Rattle.accounts.specs.Capability.{kind_able, able}
use Rattle.accounts.specs.Ranges.{supplier_fits}
use Rattle.accounts.specs.Posting.{post_clearing, post_interval, stays}
use Rattle.law.specs.Ledger.{Stage, at_rest, opened, cleared, State, Args, enrol_supplier, enrol_customer, open_hour, clear, interval, close, void, hour_seconds, places, aheads, schedules, nets}
use Rattle.law.proofs.Bounds.{Small}
use Rattle.accounts.specs.Limits.{most_suppliers, most_customers}
use Rattle.books.specs.Enrolling.{place_verdict, room_verdict, new_verdict}
use Rattle.books.specs.Sheets.{sheet_verdict}
use Rattle.law.specs.Verdicts.{at, stage_verdict, capability_verdict, schedule_verdict, posting_verdict, clearing_verdict, seconds_verdict, interval_verdict, complete_verdict, nets_verdict, total_verdict, withdrawal_verdict, verdict}

-- the most tenths of one row, in its three products together
abbrev pub row_most : ℕ
row_most = 3 * most_tenths

pub record ScheduleTaken (m : Market) (xs : List Supplier) (shadow targets : List ℕ) (curves : List (List Step)) (rows : List ScheduleRow) : Type 0 where
  pub whole_book : length (schedules rows) ≡ length xs
  pub priced : (k : ℕ) → get_or shadow k 0 ≤ most_shadow_price
  pub within : WithinCurves m shadow targets curves (quantity m (places xs) (schedules rows))
  pub small : Small row_most (schedules rows)
  pub small_ahead : Small row_most (aheads xs)

pub record WithdrawalsTaken (customers : List Customer) (settled : ℕ) (rows : List WithdrawalRow) : Type 0 where
  pub whole_book : length (nets rows) ≡ length customers
  pub complete : settled ≡ hour_seconds
  pub some : 0 < sum (nets rows)
  pub not_too_much : sum (nets rows) ≤ most_parts

abbrev pub Accepted : Market → State → Args → Type 0
Accepted m s (enrol_supplier number location kind upper response) = (s.stage ≡ at_rest) × (length s.suppliers < most_suppliers)
Accepted m s (enrol_customer number) = (s.stage ≡ at_rest) × (length s.customers < most_customers)
Accepted m s (open_hour hour) = s.stage ≡ at_rest
Accepted m s (clear shadow targets curves rows) = (s.stage ≡ opened) × ScheduleTaken m s.suppliers shadow targets curves rows
Accepted m s (interval seconds shadow targets curves rows) =
    (s.stage ≡ cleared) × ScheduleTaken m s.suppliers shadow targets curves rows × (s.seconds + seconds ≤ hour_seconds)
Accepted m s (close rows) = (s.stage ≡ cleared) × WithdrawalsTaken s.customers s.seconds rows
Accepted m s void = Unit {0}

-- ---- the stage
stage_is : (g h : Stage) → at g h ≡ true → g ≡ h
stage_is at_rest at_rest e = refl
stage_is at_rest opened e = absurd (both_ways false refl e)
stage_is at_rest cleared e = absurd (both_ways false refl e)
stage_is opened at_rest e = absurd (both_ways false refl e)
stage_is opened opened e = refl
stage_is opened cleared e = absurd (both_ways false refl e)
stage_is cleared at_rest e = absurd (both_ways false refl e)
stage_is cleared opened e = absurd (both_ways false refl e)
stage_is cleared cleared e = refl

-- ---- schedules
pub able_small : (kind : Kind) (upper response : ℕ) (r : Reserves) → kind_able kind upper response r ≡ true → upper ≤ most_tenths → r.thirty + r.ten + r.spinning ≤ row_most
able_small Synchronized upper response r e h = grind (arith, and_parts)
able_small NotSynchronized upper response r e h = grind (arith, and_parts)

fits_upper : (a : Supplier) → supplier_fits a ≡ true → a.upper ≤ most_tenths
fits_upper a e = leb-true _ _ (and_parts _ _ (and_parts _ _ (and_parts _ _ e).1).0).0

pub fits_ahead : (a : Supplier) → supplier_fits a ≡ true → a.ahead.thirty + a.ahead.ten + a.ahead.spinning ≤ row_most
fits_ahead a e =
    let r = and_parts _ _ (and_parts _ _ (and_parts _ _ e).0).1 in
    let q = and_parts _ _ r.1 in
    three a.ahead.thirty a.ahead.ten a.ahead.spinning (leb-true _ _ r.0) (leb-true _ _ q.0) (leb-true _ _ q.1)
  where
    three : (x y z : ℕ) → x ≤ most_tenths → y ≤ most_tenths → z ≤ most_tenths → x + y + z ≤ row_most
    three x y z p q r = omega arith

pub rows_small : (post : Supplier → Reserves → Supplier) (i j : ℕ) (xs : List Supplier) (rows : List ScheduleRow) → length rows ≡ length xs
    → scan able BeyondCapability i xs rows ≡ accept → scan (stays post) AccountRange j xs rows ≡ accept → Small row_most (schedules rows) × Small row_most (aheads xs)
rows_small post i j [] [] n e f = (tt, tt)
rows_small post i j [] (w ∷ rows) n e f = absurd (omega arith)
rows_small post i j (x ∷ xs) [] n e f = absurd (omega arith)
rows_small post i j (x ∷ xs) (w ∷ rows) n e f =
    let l : length rows ≡ length xs = omega arith in
    let a = both (want (able x w) (BeyondCapability i)) (scan able BeyondCapability (i + 1) xs rows) e in
    let b = both (want (stays post x w) (AccountRange j)) (scan (stays post) AccountRange (j + 1) xs rows) f in
    let can = (and_parts _ _ (wanted _ (BeyondCapability i) a.0)).0 in
    let fits = (and_parts _ _ (wanted _ (AccountRange j) b.0)).0 in
    let others = rows_small post (i + 1) (j + 1) xs rows l a.1 b.1 in (
      (able_small x.kind x.upper x.response w.reserves can (fits_upper x fits), others.0),
      (fits_ahead x fits, others.1),
    )

pub sheet_length : {A B : Type 0} (number : A → ℕ) (row_number : B → ℕ) (xs : List A) (rows : List B) → sheet_verdict number row_number xs rows ≡ accept → length rows ≡ length xs
sheet_length number row_number xs rows e = eqb-true _ _ (wanted _ (SheetLength (length xs)) (both (want (eqb (length rows) (length xs)) (SheetLength (length xs))) _ e).0)

prices_in_range : (m : Market) (shadow targets : List ℕ) (curves : List (List Step)) (q : ℕ → ℕ) → price_verdict m shadow targets curves q ≡ accept
    → (k : ℕ) → get_or shadow k 0 ≤ most_shadow_price
prices_in_range m shadow targets curves q e k =
    let a = both (counts_verdict m.requirements (length shadow) (length targets) (length curves)) _ e in
    let b = both (every (claim_in_range shadow targets) PriceOrTargetOutOfRange 0 m.requirements) _ a.1 in
    let n : length shadow ≡ m.requirements = eqb-true _ _ (and_parts _ _ (wanted _ (RequirementCount m.requirements) a.0)).0 in
    elim (cases_lt k m.requirements) [
      | inl l ↦ leb-true _ _ (and_parts _ _ (every_held (claim_in_range shadow targets) PriceOrTargetOutOfRange 0 m.requirements b.0 k (omega arith) (omega arith))).0
      | inr g ↦ (let z : get_or shadow k 0 ≡ 0 = get_or_past shadow k 0 (omega arith) in omega arith)
    ]

schedule_taken : (m : Market) (xs : List Supplier) (shadow targets : List ℕ) (curves : List (List Step)) (rows : List ScheduleRow) (post : Supplier → Reserves → Supplier)
    → schedule_verdict m xs shadow targets curves rows ≡ accept → posting_verdict post xs rows ≡ accept → ScheduleTaken m xs shadow targets curves rows
schedule_taken m xs shadow targets curves rows post e f =
    let q : ℕ → ℕ = quantity m (places xs) (schedules rows) in
    let a = both (sheet_verdict (λ (x : Supplier). x.number) (λ (w : ScheduleRow). w.number) xs rows) _ e in
    let b = both (capability_verdict xs rows) (price_verdict m shadow targets curves q) a.1 in
    let n : length rows ≡ length xs = sheet_length (λ (x : Supplier). x.number) (λ (w : ScheduleRow). w.number) xs rows a.0 in
    let s = rows_small post 0 0 xs rows n b.0 f in
    record {
      whole_book = length-map rows (λ w. w.reserves) ∙ n;
      priced = prices_in_range m shadow targets curves q b.1;
      within = within_curves m shadow targets curves q b.1;
      small = s.0;
      small_ahead = s.1;
    }

pub clearing_accepted : (m : Market) (xs : List Supplier) (shadow targets : List ℕ) (curves : List (List Step)) (rows : List ScheduleRow)
    → clearing_verdict m xs shadow targets curves rows ≡ accept → ScheduleTaken m xs shadow targets curves rows
clearing_accepted m xs shadow targets curves rows e =
    let a = both (schedule_verdict m xs shadow targets curves rows) _ e in
    schedule_taken m xs shadow targets curves rows (post_clearing m shadow) a.0 a.1

pub interval_accepted : (m : Market) (xs : List Supplier) (settled seconds : ℕ) (shadow targets : List ℕ) (curves : List (List Step)) (rows : List ScheduleRow)
    → interval_verdict m xs settled seconds shadow targets curves rows ≡ accept → ScheduleTaken m xs shadow targets curves rows × (settled + seconds ≤ hour_seconds)
interval_accepted m xs settled seconds shadow targets curves rows e =
    let a = both (schedule_verdict m xs shadow targets curves rows) _ e in
    let b = both (seconds_verdict settled seconds) _ a.1 in (
      schedule_taken m xs shadow targets curves rows (post_interval m shadow seconds) a.0 b.1,
      leb-true _ _ (and_parts _ _ (wanted _ (IntervalLength (hour_seconds - settled)) b.0)).1,
    )

-- ---- withdrawals
pub withdrawals_accepted : (ys : List Customer) (settled : ℕ) (rows : List WithdrawalRow) → withdrawal_verdict ys settled rows ≡ accept → WithdrawalsTaken ys settled rows
withdrawals_accepted ys settled rows e =
    let a = both (sheet_verdict (λ (x : Customer). x.number) (λ (w : WithdrawalRow). w.number) ys rows) _ e in
    let b = both (complete_verdict settled) _ a.1 in
    let c = both (nets_verdict rows) (total_verdict (sum (nets rows))) b.1 in
    let d = and_parts _ _ (wanted _ (WithdrawalTotal (sum (nets rows))) c.1) in
    record {
      whole_book = length-map rows _ ∙ sheet_length (λ (x : Customer). x.number) (λ (w : WithdrawalRow). w.number) ys rows a.0;
      complete = eqb-true _ _ (wanted _ (HourIncomplete (hour_seconds - settled)) b.0);
      some = ltb-true _ _ d.0;
      not_too_much = leb-true _ _ d.1;
    }

-- ---- all calls
staged : (g h : Stage) (v : Verdict Fault) → (stage_verdict (at g h) then v) ≡ accept → (g ≡ h) × (v ≡ accept)
staged g h v e = let a = both (stage_verdict (at g h)) v e in (stage_is g h (wanted _ (WrongStage 0) a.0), a.1)

has_room : (most room count : ℕ) → room_verdict most room count ≡ accept → count < most
has_room most room count e = let h = ltb-true count (min most room) (wanted _ (BookFull count) e) in omega arith

pub accepted : (m : Market) (r : Rule) (s : State) (a : Args) → verdict m r s a ≡ accept → Accepted m s a
accepted m r s (enrol_supplier number location kind upper response) e =
    let a = staged s.stage at_rest _ e in
    let b = both (new_verdict (λ (x : Supplier). x.number) most_suppliers s.supplier_room number s.suppliers) _ a.1 in
    let c = both (place_verdict (λ (x : Supplier). x.number) number s.suppliers) _ b.0 in
    (a.0, has_room most_suppliers s.supplier_room (length s.suppliers) c.1)
accepted m r s (enrol_customer number) e =
    let a = staged s.stage at_rest _ e in
    let b = both (place_verdict (λ (x : Customer). x.number) number s.customers) _ a.1 in
    (a.0, has_room most_customers s.customer_room (length s.customers) b.1)
accepted m r s (open_hour hour) e = (staged s.stage at_rest _ e).0
accepted m r s (clear shadow targets curves rows) e =
    let a = staged s.stage opened _ e in
    (a.0, clearing_accepted m s.suppliers shadow targets curves rows a.1)
accepted m r s (interval seconds shadow targets curves rows) e =
    let a = staged s.stage cleared _ e in
    let b = interval_accepted m s.suppliers s.seconds seconds shadow targets curves rows a.1 in
    (a.0, b.0, b.1)
accepted m r s (close rows) e =
    let a = staged s.stage cleared _ e in
    (a.0, withdrawals_accepted s.customers s.seconds rows (both (withdrawal_verdict s.customers s.seconds rows) _ a.1).0)
accepted m r s void e = tt
