-- Steps from what a call's checks answer and what it leaves, over plain values.
use Rattle.std.proofs.Common.{◌≡◌, ℕ, ◌+◌, Bool, cond, List, [], ◌∷◌, ◌++◌, map, ℤ, pos, ◌+ℤ◌, ◌*ℤ◌, Some, Err, Option, refl, ap, ◌∙◌}
use Rattle.faults.specs.declared.fault.Fault.{Fault}
use Rattle.sums.specs.Sums.{each}
use Rattle.sums.specs.Verdict.{Verdict, accept, accepts, want, scan, scan_one}
use Rattle.sums.proofs.Verdicts.{both, wanted}
use Rattle.maps.specs.Market.{Market, MapLaw}
use Rattle.curves.specs.declared.step.Step.{Step as CurveStep}
use Rattle.market.specs.Products.{Reserves}
use Rattle.market.specs.Prices.{cost, cost_over_lem}
use Rattle.sharing.specs.Rule.{Rule, Fair}
use Rattle.sharing.specs.Shares.{shared, new_carry}
use Rattle.accounts.specs.declared.supplier.Supplier.{Supplier}
use Rattle.accounts.specs.declared.customer.Customer.{Customer}
use Rattle.accounts.specs.declared.schedule.ScheduleRow.{ScheduleRow}
use Rattle.accounts.specs.declared.withdrawal.WithdrawalRow.{WithdrawalRow}
use Rattle.accounts.specs.Enrolment.{new_supplier, new_customer}
use Rattle.accounts.specs.Posting.{post_clearing, post_interval, settle, forget, charge}
use Rattle.law.specs.Ledger.{Stage, at_rest, opened, cleared, State, Args, enrol_supplier, enrol_customer, open_hour, clear, interval, close, void, hour_seconds, places, aheads, schedules, nets, after}
use Rattle.law.specs.Verdicts.{supplier_verdict, customer_verdict, hour_verdict, clearing_verdict, interval_verdict, closing_verdict, verdict}
use Rattle.law.specs.Run.{leaves, Step, Fed, Run, more}
use Rattle.law.specs.Law.{Kept}
use Rattle.law.proofs.Kept.{runs_keep}

-- ---- any call
pub refused : (m : Market) (r : Rule) (s : State) (a : Args) (f : Fault) → Err f ≡ verdict m r s a → Step m r s a (Err f) s
refused m r s a f e = record { answer = e; left = ap (leaves m r s a) e }

pub taken : (m : Market) (r : Rule) (s : State) (a : Args) (s' : State) → accept ≡ verdict m r s a → s' ≡ after m r s a → Step m r s a accept s'
taken m r s a s' e f = record { answer = e; left = f ∙ ap (leaves m r s a) e }

-- the law after one more step
pub kept_after : (m : Market) → MapLaw m → (r : Rule) → Fair r → (s : State) (a : Args) (v : Verdict Fault) (s' : State) → Step m r s a v s'
    → (log : List Fed) → Run m r log s → Kept m r (record { args = a; accepted = accepts v } ∷ log) s'
kept_after m law r fair s a v s' step log run = runs_keep m law r fair (record { args = a; accepted = accepts v } ∷ log) s' (more run step)

-- ---- the ledger's numbers with the books
abbrev pub during : Stage → Option ℕ → (hour : ℕ) → (carry : ℤ) → (seconds : ℕ) → (cost : ℤ) → List Supplier → List Customer → ℕ → ℕ → State
during stage last hour carry seconds cost xs ys p q = record {
  stage = stage;
  last = last;
  hour = hour;
  carry = carry;
  seconds = seconds;
  cost = cost;
  suppliers = xs;
  customers = ys;
  supplier_room = p;
  customer_room = q;
}

abbrev pub resting_with : Option ℕ → ℤ → List Supplier → List Customer → ℕ → ℕ → State
resting_with last carry xs ys p q = during at_rest last 0 carry 0 (pos 0) xs ys p q

-- ---- at rest
module _ (m : Market) (r : Rule) (last : Option ℕ) (carry : ℤ) (xs : List Supplier) (ys : List Customer) (p q : ℕ) where
  abbrev pub idle : State
  idle = resting_with last carry xs ys p q

  module _ (number location kind upper response : ℕ) where
    pub supplier_refused : (f : Fault) → Err f ≡ supplier_verdict m xs p number location kind upper response
        → Step m r idle (enrol_supplier number location kind upper response) (Err f) idle
    supplier_refused f e = refused m r idle (enrol_supplier number location kind upper response) f e

    pub supplier_taken : (xs' : List Supplier) (p' : ℕ) → accept ≡ supplier_verdict m xs p number location kind upper response
        → xs' ≡ xs ++ (new_supplier number location kind upper response ∷ []) → p' ≡ p
        → Step m r idle (enrol_supplier number location kind upper response) accept (resting_with last carry xs' ys p' q)
    supplier_taken xs' p' e x w = taken m r idle (enrol_supplier number location kind upper response) (resting_with last carry xs' ys p' q) e (cc (x, w))

  pub customer_refused : (number : ℕ) (f : Fault) → Err f ≡ customer_verdict ys q number → Step m r idle (enrol_customer number) (Err f) idle
  customer_refused number f e = refused m r idle (enrol_customer number) f e

  pub customer_taken : (number : ℕ) (ys' : List Customer) (q' : ℕ) → accept ≡ customer_verdict ys q number → ys' ≡ ys ++ (new_customer number ∷ []) → q' ≡ q
      → Step m r idle (enrol_customer number) accept (resting_with last carry xs ys' p q')
  customer_taken number ys' q' e y w = taken m r idle (enrol_customer number) (resting_with last carry xs ys' p q') e (cc (y, w))

  pub open_refused : (hour : ℕ) (f : Fault) → Err f ≡ hour_verdict last hour → Step m r idle (open_hour hour) (Err f) idle
  open_refused hour f e = refused m r idle (open_hour hour) f e

  pub open_taken : (hour : ℕ) → accept ≡ hour_verdict last hour → Step m r idle (open_hour hour) accept (during opened last hour carry 0 (pos 0) xs ys p q)
  open_taken hour e = taken m r idle (open_hour hour) (during opened last hour carry 0 (pos 0) xs ys p q) e refl

-- ---- in an hour
module _ (m : Market) (r : Rule) (last : Option ℕ) (hour : ℕ) (carry : ℤ) (settled : ℕ) (spent : ℤ) (xs : List Supplier) (ys : List Customer) (p q : ℕ) where
  abbrev pub open_now : State
  open_now = during opened last hour carry settled spent xs ys p q

  abbrev pub cleared_now : State
  cleared_now = during cleared last hour carry settled spent xs ys p q

  module _ (shadow targets : List ℕ) (curves : List (List CurveStep)) (rows : List ScheduleRow) where
    pub clear_refused : (f : Fault) → Err f ≡ clearing_verdict m xs shadow targets curves rows
        → Step m r open_now (clear shadow targets curves rows) (Err f) open_now
    clear_refused f e = refused m r open_now (clear shadow targets curves rows) f e

    pub clear_taken : (spent' : ℤ) (xs' : List Supplier) (p' : ℕ) → accept ≡ clearing_verdict m xs shadow targets curves rows
        → spent' ≡ spent +ℤ cost m shadow (places xs) (schedules rows) *ℤ pos hour_seconds
        → xs' ≡ each (post_clearing m shadow) xs (schedules rows) → p' ≡ p
        → Step m r open_now (clear shadow targets curves rows) accept (during cleared last hour carry 0 spent' xs' ys p' q)
    clear_taken spent' xs' p' e c x w = taken m r open_now (clear shadow targets curves rows) (during cleared last hour carry 0 spent' xs' ys p' q) e (cc (c, x, w))

    pub interval_refused : (seconds : ℕ) (f : Fault) → Err f ≡ interval_verdict m xs settled seconds shadow targets curves rows
        → Step m r cleared_now (interval seconds shadow targets curves rows) (Err f) cleared_now
    interval_refused seconds f e = refused m r cleared_now (interval seconds shadow targets curves rows) f e

    pub interval_taken : (seconds settled' : ℕ) (spent' : ℤ) (xs' : List Supplier) (p' : ℕ) → accept ≡ interval_verdict m xs settled seconds shadow targets curves rows
        → settled' ≡ settled + seconds → spent' ≡ spent +ℤ cost_over_lem m shadow (places xs) (schedules rows) (aheads xs) *ℤ pos seconds
        → xs' ≡ each (post_interval m shadow seconds) xs (schedules rows) → p' ≡ p
        → Step m r cleared_now (interval seconds shadow targets curves rows) accept (during cleared last hour carry settled' spent' xs' ys p' q)
    interval_taken seconds settled' spent' xs' p' e d c x w =
        taken m r cleared_now (interval seconds shadow targets curves rows) (during cleared last hour carry settled' spent' xs' ys p' q) e (cc (d, c, x, w))

  module _ (rows : List WithdrawalRow) where
    pub close_refused : (f : Fault) → Err f ≡ closing_verdict r xs ys settled (spent +ℤ carry) rows → Step m r cleared_now (close rows) (Err f) cleared_now
    close_refused f e = refused m r cleared_now (close rows) f e

    pub close_taken : (carry' : ℤ) (xs' : List Supplier) (ys' : List Customer) (p' q' : ℕ) → accept ≡ closing_verdict r xs ys settled (spent +ℤ carry) rows
        → carry' ≡ new_carry (spent +ℤ carry) (shared r (spent +ℤ carry) (nets rows)) → xs' ≡ map settle xs → ys' ≡ each charge ys (shared r (spent +ℤ carry) (nets rows)) → p' ≡ p → q' ≡ q
        → Step m r cleared_now (close rows) accept (resting_with (Some hour) carry' xs' ys' p' q')
    close_taken carry' xs' ys' p' q' e k x y w u = taken m r cleared_now (close rows) (resting_with (Some hour) carry' xs' ys' p' q') e (cc (k, x, y, w, u))

  pub void_opened : (xs' : List Supplier) (p' : ℕ) → xs' ≡ map forget xs → p' ≡ p → Step m r open_now void accept (resting_with last carry xs' ys p' q)
  void_opened xs' p' x w = taken m r open_now void (resting_with last carry xs' ys p' q) refl (cc (x, w))

  pub void_cleared : (xs' : List Supplier) (p' : ℕ) → xs' ≡ map forget xs → p' ≡ p → Step m r cleared_now void accept (resting_with last carry xs' ys p' q)
  void_cleared xs' p' x w = taken m r cleared_now void (resting_with last carry xs' ys p' q) refl (cc (x, w))

-- ---- postings that a loop makes only where they are allowed
module _ {A B : Type 0} (ok : A → B → Bool) (post : A → B → A) (f : ℕ → Fault) where
  pub each_allowed : (k : ℕ) (xs : List A) (ys : List B) → scan ok f k xs ys ≡ accept → each (λ x y. cond (ok x y) (post x y) x) xs ys ≡ each post xs ys
  each_allowed k [] ys e = refl
  each_allowed k (x ∷ xs) [] e = refl
  each_allowed k (x ∷ xs) (y ∷ ys) e =
      let b = both (want (ok x y) (f k)) (scan ok f (k + 1) xs ys) e in
      let here : cond (ok x y) (post x y) x ≡ post x y = ap (λ (c : Bool). cond c (post x y) x) (wanted (ok x y) (f k) b.0) in
      cc (here, each_allowed (k + 1) xs ys b.1)

module _ {A : Type 0} (ok : A → Bool) (post : A → A) (f : ℕ → Fault) where
  pub map_allowed : (k : ℕ) (xs : List A) → scan_one ok f k xs ≡ accept → map (λ x. cond (ok x) (post x) x) xs ≡ map post xs
  map_allowed k [] e = refl
  map_allowed k (x ∷ xs) e =
      let b = both (want (ok x) (f k)) (scan_one ok f (k + 1) xs) e in
      let here : cond (ok x) (post x) x ≡ post x = ap (λ (c : Bool). cond c (post x) x) (wanted (ok x) (f k) b.0) in
      cc (here, map_allowed (k + 1) xs b.1)

-- by rows, or by the rows' reserves
pub each_row : (post : Supplier → Reserves → Supplier) (xs : List Supplier) (rows : List ScheduleRow) → each (λ a w. post a w.reserves) xs rows ≡ each post xs (schedules rows)
each_row post [] rows = refl
each_row post (x ∷ xs) [] = refl
each_row post (x ∷ xs) (w ∷ rows) = ap (λ (zs : List Supplier). post x w.reserves ∷ zs) (each_row post xs rows)
