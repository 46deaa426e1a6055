-- What is paid is what is charged: the books agree with the tally after every accepted call.
use Rattle.std.proofs.Common.{◌≡◌, ℕ, ◌≤◌, List, [], ◌∷◌, ◌++◌, map, length, ℤ, pos, ◌+ℤ◌, ◌*ℤ◌, sym, refl, ap, ◌∙◌, subst, arith}
use mathlib.Core.List.{map-map}
use lib.ListN.{length-map}
use borrow.Author.Differences.{ints}
use Rattle.std.proofs.lemmas.List.{map-id, map_push}
use Rattle.sums.specs.Sums.{sum_z, each}
use Rattle.sums.proofs.Ring.{distr_l}
use Rattle.sums.proofs.SumLaws.{sum_zero, sum_append, sum_map, sum_add, sum_scale_l}
use Rattle.maps.specs.Market.{Market}
use Rattle.curves.specs.declared.step.Step.{Step}
use Rattle.market.specs.Products.{Reserves}
use Rattle.market.specs.Prices.{none_reserved, cost, cost_over_lem}
use Rattle.market.specs.Laws.{total, earned, earned_over}
use Rattle.market.proofs.Costs.{cost_is_earned_lem}
use Rattle.sharing.specs.Rule.{Rule}
use Rattle.sharing.specs.Shares.{grains_per_cent, whole, new_carry}
use Rattle.sharing.proofs.Law.{length_shares, kept as no_grain_lost}
use Rattle.accounts.specs.declared.supplier.Supplier.{Supplier}
use Rattle.accounts.specs.declared.customer.Customer.{Customer}
use Rattle.accounts.specs.declared.schedule.ScheduleRow.{ScheduleRow}
use Rattle.accounts.specs.declared.withdrawal.WithdrawalRow.{WithdrawalRow}
use Rattle.accounts.specs.Enrolment.{new_supplier, new_customer}
use Rattle.accounts.specs.Posting.{post_clearing, post_interval, settle, forget, charge}
use Rattle.law.specs.Ledger.{Stage, at_rest, opened, cleared, State, new, Args, enrol_supplier, enrol_customer, open_hour, clear, interval, close, void, hour_seconds, places, aheads, schedules, nets, grains_due, charges, after}
use Rattle.law.specs.Tally.{Interval, Hour, not_cleared, cleared_at, Tally, add, for_seconds, intervals_cost, hour_cost, hour_earned, after_accepted, tally}
use Rattle.law.specs.Law.{owed, charged, Balanced, InHand}
use Rattle.law.proofs.Accepted.{Accepted}
use Rattle.law.proofs.Books.{map_each, map_each_right, total_added, total_for, length_over, hours, clearing_hours, interval_hours, settled_all, sum_charged}

-- ---- what holds between ledger, books and tally
-- the tally has a clearing exactly while the ledger is cleared
abbrev pub SameStage : Stage → Hour → Type 0
SameStage at_rest not_cleared = Unit {0}
SameStage at_rest (cleared_at shadow ahead is) = ⊥
SameStage opened not_cleared = Unit {0}
SameStage opened (cleared_at shadow ahead is) = ⊥
SameStage cleared not_cleared = ⊥
SameStage cleared (cleared_at shadow ahead is) = Unit {0}

-- the day-ahead schedules in the accounts
abbrev hour_aheads : List ℕ → Hour → List Reserves
hour_aheads ls not_cleared = map (λ l. none_reserved) ls
hour_aheads ls (cleared_at shadow ahead is) = ahead

pub record Agrees (m : Market) (t : Tally) (s : State) : Type 0 where
  pub stage : SameStage s.stage t.hour
  pub located : places s.suppliers ≡ t.places
  pub hourly : hours s.suppliers ≡ hour_earned m (places s.suppliers) t.hour
  pub ahead : aheads s.suppliers ≡ hour_aheads (places s.suppliers) t.hour
  pub cost : s.cost ≡ hour_cost m (places s.suppliers) t.hour
  pub spent : total (hour_earned m (places s.suppliers) t.hour) ≡ hour_cost m (places s.suppliers) t.hour
  pub own : map owed s.suppliers ≡ t.earnings
  pub all : total t.earnings ≡ t.total
  pub charges : charged s ≡ t.total

pub start : (m : Market) (a b : ℕ) → Agrees m (tally m []) (new a b)
start m a b = record { stage = tt; located = refl; hourly = refl; ahead = refl; cost = refl; spent = refl; own = refl; all = refl; charges = refl }

abbrev mk : List ℕ → Hour → ℤ → List ℤ → Tally
mk ls h z es = record { places = ls; hour = h; total = z; earnings = es }

total_none : (ls : List ℕ) → total (map (λ l. pos 0) ls) ≡ pos 0
total_none ls = sum_map (λ z. z) (λ (l : ℕ). pos 0) ls ∙ sum_zero ls

module _ (m : Market) (r : Rule) (s : State) where
  clear_step : (ls : List ℕ) (h : Hour) (z : ℤ) (es : List ℤ) (shadow targets : List ℕ) (curves : List (List Step)) (rows : List ScheduleRow)
      → Agrees m (mk ls h z es) s → Accepted m s (clear shadow targets curves rows) → Agrees m (after_accepted m (mk ls h z es) (clear shadow targets curves rows)) (after m r s (clear shadow targets curves rows))
  clear_step ls (cleared_at sh da is) z es shadow targets curves rows inv ok = absurd (rw ok.0 at inv.stage)
  clear_step ls not_cleared z es shadow targets curves rows inv ok =
      let rs : List Reserves = schedules rows in
      let xs : List Supplier = s.suppliers in
      let n : length rs ≡ length xs = ok.1.whole_book in
      let xs' : List Supplier = each (post_clearing m shadow) xs rs in
      let L : places xs' ≡ places xs = map_each (post_clearing m shadow) (λ a. a.location) (λ a. a.location) (λ a b. refl) xs rs n in
      record {
        stage = tt;
        located = L ∙ inv.located;
        hourly = clearing_hours m shadow xs rs inv.hourly ∙ ap (λ (l : List ℕ). for_seconds hour_seconds (earned m shadow l rs)) (sym L);
        ahead = map_each_right (post_clearing m shadow) (λ a. a.ahead) (λ q. q) (λ a b. refl) xs rs n ∙ map-id rs;
        cost = lin s.cost (cost m shadow (places xs) rs *ℤ pos hour_seconds) inv.cost ∙ ap (λ (l : List ℕ). cost m shadow l rs *ℤ pos hour_seconds +ℤ pos 0) (sym L);
        spent = total_for hour_seconds (earned m shadow (places xs') rs) ∙ ap (λ (q : ℤ). q *ℤ pos hour_seconds) ((cost_is_earned_lem m).scheduled shadow (places xs') rs) ∙ omega (arith, ints);
        own = map_each (post_clearing m shadow) owed owed (λ a b. refl) xs rs n ∙ inv.own;
        all = inv.all;
        charges = inv.charges;
      }
    where
      lin : (a c : ℤ) → a ≡ pos 0 → a +ℤ c ≡ c +ℤ pos 0
      lin a c e = omega (arith, ints)

  interval_step : (ls : List ℕ) (h : Hour) (z : ℤ) (es : List ℤ) (d : ℕ) (shadow targets : List ℕ) (curves : List (List Step)) (rows : List ScheduleRow)
      → Agrees m (mk ls h z es) s → Accepted m s (interval d shadow targets curves rows) → Agrees m (after_accepted m (mk ls h z es) (interval d shadow targets curves rows)) (after m r s (interval d shadow targets curves rows))
  interval_step ls not_cleared z es d shadow targets curves rows inv ok = absurd (rw ok.0 at inv.stage)
  interval_step ls (cleared_at sh da is) z es d shadow targets curves rows inv ok =
      let rs : List Reserves = schedules rows in
      let xs : List Supplier = s.suppliers in
      let n : length rs ≡ length xs = ok.1.whole_book in
      let xs' : List Supplier = each (post_interval m shadow d) xs rs in
      let i : Interval = record { seconds = d; shadow = shadow; real = rs } in
      let L : places xs' ≡ places xs = map_each (post_interval m shadow d) (λ a. a.location) (λ a. a.location) (λ a b. refl) xs rs n in
      let nl : length (places xs) ≡ length xs = length-map xs _ in
      let nr : length rs ≡ length (places xs) = n ∙ sym nl in
      let nd : length da ≡ length (places xs) = ap length (sym inv.ahead) ∙ length-map xs _ ∙ sym nl in
      let nh : length (hour_earned m (places xs) (cleared_at sh da is)) ≡ length (places xs) = ap length (sym inv.hourly) ∙ length-map xs _ ∙ sym nl in
      let O : List ℤ = earned_over m shadow (places xs) rs da in
      let no : length (for_seconds d O) ≡ length (places xs) = length-map O _ ∙ length_over m shadow (places xs) rs da nr nd in
      let o : total (for_seconds d O) ≡ cost_over_lem m shadow (places xs) rs da *ℤ pos d = total_for d O ∙ ap (λ (q : ℤ). q *ℤ pos d) ((cost_is_earned_lem m).differing shadow (places xs) rs da nr nd) in
      let H : hours xs' ≡ hour_earned m (places xs) (cleared_at sh da (i ∷ is)) =
      interval_hours m shadow d xs rs
      ∙ ap (λ (b : List Reserves). each add (hours xs) (for_seconds d (earned_over m shadow (places xs) rs b))) inv.ahead
      ∙ ap (λ (q : List ℤ). each add q (for_seconds d O)) inv.hourly in
      let S : total (hour_earned m (places xs) (cleared_at sh da (i ∷ is))) ≡ hour_cost m (places xs) (cleared_at sh da (i ∷ is)) =
      total_added (hour_earned m (places xs) (cleared_at sh da is)) (for_seconds d O) (no ∙ sym nh)
      ∙ lin _ _ (cost m sh (places xs) da *ℤ pos hour_seconds) (intervals_cost m (places xs) da is) _ inv.spent o in
      let C : (after m r s (interval d shadow targets curves rows)).cost ≡ hour_cost m (places xs) (cleared_at sh da (i ∷ is)) =
      lin _ _ (cost m sh (places xs) da *ℤ pos hour_seconds) (intervals_cost m (places xs) da is) _ inv.cost (ap (λ (b : List Reserves). cost_over_lem m shadow (places xs) rs b *ℤ pos d) inv.ahead) in
      record {
        stage = tt;
        located = L ∙ inv.located;
        hourly = H ∙ ap (λ (l : List ℕ). hour_earned m l (cleared_at sh da (i ∷ is))) (sym L);
        ahead = map_each (post_interval m shadow d) (λ a. a.ahead) (λ a. a.ahead) (λ a b. refl) xs rs n ∙ inv.ahead;
        cost = C ∙ ap (λ (l : List ℕ). hour_cost m l (cleared_at sh da (i ∷ is))) (sym L);
        spent = subst (λ (l : List ℕ). total (hour_earned m l (cleared_at sh da (i ∷ is))) ≡ hour_cost m l (cleared_at sh da (i ∷ is))) (sym L) S;
        own = map_each (post_interval m shadow d) owed owed (λ a b. refl) xs rs n ∙ inv.own;
        all = inv.all;
        charges = inv.charges;
      }
    where
      lin : (a b x y w : ℤ) → a ≡ x +ℤ y → b ≡ w → a +ℤ b ≡ x +ℤ (y +ℤ w)
      lin a b x y w p q = omega (arith, ints)

  supplier_step : (ls : List ℕ) (h : Hour) (z : ℤ) (es : List ℤ) (number location kind upper response : ℕ)
      → Agrees m (mk ls h z es) s → Accepted m s (enrol_supplier number location kind upper response)
      → Agrees m (after_accepted m (mk ls h z es) (enrol_supplier number location kind upper response)) (after m r s (enrol_supplier number location kind upper response))
  supplier_step ls (cleared_at sh da is) z es number location kind upper response inv ok = absurd (rw ok.0 at inv.stage)
  supplier_step ls not_cleared z es number location kind upper response inv ok =
      let a : Supplier = new_supplier number location kind upper response in
      let xs : List Supplier = s.suppliers in
      let L : places (xs ++ (a ∷ [])) ≡ places xs ++ (location ∷ []) = map_push (λ x. x.location) xs a in
      record {
        stage = tt;
        located = L ∙ ap (λ (q : List ℕ). q ++ (location ∷ [])) inv.located;
        hourly = map_push (λ x. x.hour) xs a ∙ ap (λ (q : List ℤ). q ++ (pos 0 ∷ [])) inv.hourly ∙ sym (map_push (λ (l : ℕ). pos 0) (places xs) location) ∙ ap (map (λ (l : ℕ). pos 0)) (sym L);
        ahead = map_push (λ x. x.ahead) xs a ∙ ap (λ (q : List Reserves). q ++ (none_reserved ∷ [])) inv.ahead ∙ sym (map_push (λ (l : ℕ). none_reserved) (places xs) location) ∙ ap (map (λ (l : ℕ). none_reserved)) (sym L);
        cost = refl;
        spent = total_none (places (xs ++ (a ∷ [])));
        own = map_push owed xs a ∙ ap (λ (q : List ℤ). q ++ (pos 0 ∷ [])) inv.own;
        all = sum_append (λ q. q) es (pos 0 ∷ []) ∙ lin (total es) z inv.all;
        charges = inv.charges;
      }
    where
      lin : (a b : ℤ) → a ≡ b → a +ℤ (pos 0 +ℤ pos 0) ≡ b
      lin a b e = omega (arith, ints)

  customer_step : (ls : List ℕ) (h : Hour) (z : ℤ) (es : List ℤ) (number : ℕ)
      → Agrees m (mk ls h z es) s → Accepted m s (enrol_customer number) → Agrees m (after_accepted m (mk ls h z es) (enrol_customer number)) (after m r s (enrol_customer number))
  customer_step ls (cleared_at sh da is) z es number inv ok = absurd (rw ok.0 at inv.stage)
  customer_step ls not_cleared z es number inv ok =
      let c : Customer = new_customer number in
      record {
        stage = tt;
        located = inv.located;
        hourly = inv.hourly;
        ahead = inv.ahead;
        cost = refl;
        spent = inv.spent;
        own = inv.own;
        all = inv.all;
        charges = ap (λ (q : ℤ). pos grains_per_cent *ℤ q +ℤ s.carry) (sum_append (λ x. x.cents) s.customers (c ∷ []) ∙ lin (sum_z (λ x. x.cents) s.customers)) ∙ inv.charges;
      }
    where
      lin : (a : ℤ) → a +ℤ (pos 0 +ℤ pos 0) ≡ a
      lin a = omega (arith, ints)

  open_step : (ls : List ℕ) (h : Hour) (z : ℤ) (es : List ℤ) (hour : ℕ)
      → Agrees m (mk ls h z es) s → Accepted m s (open_hour hour) → Agrees m (after_accepted m (mk ls h z es) (open_hour hour)) (after m r s (open_hour hour))
  open_step ls (cleared_at sh da is) z es hour inv ok = absurd (rw ok at inv.stage)
  open_step ls not_cleared z es hour inv ok =
      record { stage = tt; located = inv.located; hourly = inv.hourly; ahead = inv.ahead; cost = refl; spent = inv.spent; own = inv.own; all = inv.all; charges = inv.charges }

  void_step : (ls : List ℕ) (h : Hour) (z : ℤ) (es : List ℤ)
      → Agrees m (mk ls h z es) s → Agrees m (after_accepted m (mk ls h z es) void) (after m r s void)
  void_step ls h z es inv =
      let xs : List Supplier = s.suppliers in
      let L : places (map forget xs) ≡ places xs = map-map (λ a. a.location) forget xs in
      record {
        stage = tt;
        located = L ∙ inv.located;
        hourly = map-map (λ a. a.hour) forget xs ∙ sym (map-map (λ (l : ℕ). pos 0) (λ a. a.location) xs) ∙ ap (map (λ (l : ℕ). pos 0)) (sym L);
        ahead = map-map (λ a. a.ahead) forget xs ∙ sym (map-map (λ (l : ℕ). none_reserved) (λ a. a.location) xs) ∙ ap (map (λ (l : ℕ). none_reserved)) (sym L);
        cost = refl;
        spent = total_none (places (map forget xs));
        own = map-map owed forget xs ∙ inv.own;
        all = inv.all;
        charges = inv.charges;
      }

  close_step : (ls : List ℕ) (h : Hour) (z : ℤ) (es : List ℤ) (rows : List WithdrawalRow)
      → Agrees m (mk ls h z es) s → Accepted m s (close rows) → Agrees m (after_accepted m (mk ls h z es) (close rows)) (after m r s (close rows))
  close_step ls h z es rows inv ok =
      let xs : List Supplier = s.suppliers in
      let L : places (map settle xs) ≡ places xs = map-map (λ a. a.location) settle xs in
      let P : hour_earned m (places xs) h ≡ hour_earned m ls h = ap (λ (l : List ℕ). hour_earned m l h) inv.located in
      let C : s.cost ≡ hour_cost m ls h = inv.cost ∙ ap (λ (l : List ℕ). hour_cost m l h) inv.located in
      let S : total (hour_earned m ls h) ≡ hour_cost m ls h = subst (λ (l : List ℕ). total (hour_earned m l h) ≡ hour_cost m l h) inv.located inv.spent in
      let ne : length es ≡ length xs = ap length (sym inv.own) ∙ length-map xs owed in
      let nh : length (hour_earned m ls h) ≡ length xs = ap length (sym (inv.hourly ∙ P)) ∙ length-map xs _ in
      let Z : List ℤ = charges r s rows in
      let nz : length Z ≡ length s.customers = length_shares r (whole (grains_due s)) 0 _ (nets rows) ∙ ok.1.whole_book in
      record {
        stage = tt;
        located = L ∙ inv.located;
        hourly = map-map (λ a. a.hour) settle xs ∙ sym (map-map (λ (l : ℕ). pos 0) (λ a. a.location) xs) ∙ ap (map (λ (l : ℕ). pos 0)) (sym L);
        ahead = map-map (λ a. a.ahead) settle xs ∙ sym (map-map (λ (l : ℕ). none_reserved) (λ a. a.location) xs) ∙ ap (map (λ (l : ℕ). none_reserved)) (sym L);
        cost = refl;
        spent = total_none (places (map settle xs));
        own = settled_all xs ∙ ap (λ (q : List ℤ). each add q (hours xs)) inv.own ∙ ap (λ (q : List ℤ). each add es q) (inv.hourly ∙ P);
        all = total_added es (hour_earned m ls h) (nh ∙ sym ne) ∙ cc (inv.all, S);
        charges = kept s.customers Z nz inv.charges C;
      }
    where
      lin : (a q k c y z w : ℤ) → q +ℤ k ≡ c +ℤ y → a +ℤ y ≡ z → c ≡ w → (a +ℤ q) +ℤ k ≡ z +ℤ w
      lin a q k c y z w e f h = omega (arith, ints)

      kept : (cs : List Customer) (Z : List ℤ) → length Z ≡ length cs → pos grains_per_cent *ℤ sum_z (λ c. c.cents) cs +ℤ s.carry ≡ z → s.cost ≡ hour_cost m ls h
          → pos grains_per_cent *ℤ sum_z (λ c. c.cents) (each charge cs Z) +ℤ new_carry (grains_due s) Z ≡ z +ℤ hour_cost m ls h
      kept cs Z n e f =
          let K : ℤ = pos grains_per_cent in
          let A : ℤ = sum_z (λ c. c.cents) cs in
          let d : K *ℤ sum_z (λ c. c.cents) (each charge cs Z) ≡ K *ℤ A +ℤ K *ℤ total Z = ap (λ (q : ℤ). K *ℤ q) (sum_charged cs Z n) ∙ distr_l K A (total Z) in
          ap (λ (q : ℤ). q +ℤ new_carry (grains_due s) Z) d ∙ lin (K *ℤ A) (K *ℤ total Z) (new_carry (grains_due s) Z) s.cost s.carry z (hour_cost m ls h) (no_grain_lost (grains_due s) Z) e f

  pub one_step : (t : Tally) (a : Args) → Agrees m t s → Accepted m s a → Agrees m (after_accepted m t a) (after m r s a)
  one_step t (enrol_supplier number location kind upper response) inv ok = supplier_step t.places t.hour t.total t.earnings number location kind upper response inv ok
  one_step t (enrol_customer number) inv ok = customer_step t.places t.hour t.total t.earnings number inv ok
  one_step t (open_hour hour) inv ok = open_step t.places t.hour t.total t.earnings hour inv ok
  one_step t (clear shadow targets curves rows) inv ok = clear_step t.places t.hour t.total t.earnings shadow targets curves rows inv ok
  one_step t (interval d shadow targets curves rows) inv ok = interval_step t.places t.hour t.total t.earnings d shadow targets curves rows inv ok
  one_step t (close rows) inv ok = close_step t.places t.hour t.total t.earnings rows inv ok
  one_step t void inv ok = void_step t.places t.hour t.total t.earnings inv

-- ---- what the law asks of it
paid_is : (xs : List Supplier) → pos grains_per_cent *ℤ sum_z (λ a. a.cents) xs +ℤ sum_z (λ a. pos a.held) xs ≡ total (map owed xs)
paid_is xs =
    ap (λ (q : ℤ). q +ℤ sum_z (λ a. pos a.held) xs) (sym (sum_scale_l (pos grains_per_cent) (λ a. a.cents) xs))
    ∙ sym (sum_add (λ a. pos grains_per_cent *ℤ a.cents) (λ a. pos a.held) xs)
    ∙ sym (sum_map (λ z. z) owed xs)

pub balances : (m : Market) (t : Tally) (s : State) → Agrees m t s → Balanced t s
balances m t s i = record { both = paid_is s.suppliers ∙ ap total i.own ∙ i.all ∙ sym i.charges; total = i.charges; own = i.own }

pub in_hand : (m : Market) (t : Tally) (s : State) → Agrees m t s → s.seconds ≤ hour_seconds → InHand m t s
in_hand m t s i h = record {
  earned = sym (sum_map (λ z. z) (λ a. a.hour) s.suppliers) ∙ ap total i.hourly ∙ i.spent ∙ sym i.cost;
  reckoned = i.cost ∙ ap (λ (l : List ℕ). hour_cost m l t.hour) i.located;
  timed = h;
}
