-- From tables to the rules of a clearing and an interval.
use Rattle.std.proofs.Common.{◌≡◌, ℕ, ◌*◌, ◌≤◌, List, length, get_or, ℤ, pos, ◌-ℤ◌, ◌*ℤ◌, nat_abs, sum_by, sym, refl, ap, ◌∙◌, subst, arith}
use mathlib.Core.Path.{fun_ext}
use lib.ListN.{length-map}
use borrow.Author.Differences.{ints}
use Rattle.std.proofs.lemmas.Bool.{and_parts, eqb-true}
use Rattle.faults.specs.declared.fault.Fault.{Fault}
use Rattle.faults.specs.declared.fault.Fault.TheVariants.{RequirementCount, AccountRange}
use Rattle.sums.specs.Sums.{upto}
use Rattle.sums.specs.Verdict.{Verdict, accept, ◌then◌, scan}
use Rattle.sums.proofs.SumLaws.{sum_ext, pos_sum}
use Rattle.sums.proofs.Verdicts.{both, wanted, pass}
use Rattle.maps.specs.Market.{Market, MapLaw}
use Rattle.curves.specs.declared.step.Step.{Step}
use Rattle.market.specs.Products.{ProductPrices, Reserves}
use Rattle.market.specs.Prices.{quantity, cost}
use Rattle.market.specs.Tables.{no_prices, prices_at_lem}
use Rattle.market.specs.Claims.{counts_verdict, price_verdict}
use Rattle.market.proofs.Costs.{cost_differs}
use Rattle.accounts.specs.declared.posting.Terms.{Terms}
use Rattle.accounts.specs.declared.posting.Timing.{Timing}
use Rattle.accounts.specs.declared.posting.Timing.TheVariants.{DayAhead, RealTime}
use Rattle.accounts.specs.declared.schedule.ScheduleRow.{ScheduleRow}
use Rattle.accounts.specs.declared.supplier.Supplier.{Supplier}
use Rattle.accounts.specs.Posting.{stays}
use Rattle.accounts.specs.Terms.{post_by}
use Rattle.accounts.proofs.Posts.{terms_keep_rule}
use Rattle.books.proofs.Accepted.{posts_alike}
use Rattle.law.specs.Ledger.{hour_seconds, places, aheads, schedules}
use Rattle.books.specs.Sheets.{sheet_verdict}
use Rattle.law.specs.Verdicts.{capability_verdict, schedule_verdict, posting_verdict, seconds_verdict}
use Rattle.law.proofs.Accepted.{row_most, ScheduleTaken, clearing_accepted, interval_accepted}
use Rattle.law.proofs.Bounds.{Small, cost_most}
use Rattle.planning.specs.Plans.{most_cost, cost_at, Weighed, Planned, post_at, paid_already, cost_in_second}

-- one check more, after one that accepted
pub next : (v w x : Verdict Fault) → accept ≡ v → x ≡ w → x ≡ (v then w)
next v w x e h = h ∙ sym (pass v w (sym e))

-- a table of quantities costs what the requirements cost
pub cost_is : (m : Market) (shadow ls : List ℕ) (rs : List Reserves) (qs : List ℕ) (n : ℕ) → length shadow ≡ m.requirements → ((k : ℕ) → get_or qs k 0 ≡ quantity m ls rs k)
    → n ≡ cost_at shadow qs → pos n ≡ cost m shadow ls rs
cost_is m shadow ls rs qs n l e f =
    ap pos f
    ∙ ap (λ (j : ℕ). pos (sum_by (λ k. get_or shadow k 0 * get_or qs k 0) (upto j))) l
    ∙ pos_sum (λ k. get_or shadow k 0 * get_or qs k 0) (upto m.requirements)
    ∙ sum_ext _ _ (λ k. ap (λ (q : ℕ). pos (get_or shadow k 0) *ℤ pos q) (e k)) (upto m.requirements)

module _ (m : Market) (xs : List Supplier) (shadow targets : List ℕ) (curves : List (List Step)) (rows : List ScheduleRow) where
  abbrev sheet : Verdict Fault
  sheet = sheet_verdict (λ (a : Supplier). a.number) (λ (w : ScheduleRow). w.number) xs rows

  abbrev able : Verdict Fault
  able = capability_verdict xs rows

  abbrev prices : (ℕ → ℕ) → Verdict Fault
  prices q = price_verdict m shadow targets curves q

  abbrev amounts : ℕ → ℕ
  amounts = quantity m (places xs) (schedules rows)

  abbrev schedule : Verdict Fault
  schedule = schedule_verdict m xs shadow targets curves rows

  abbrev Taken : Type 0
  Taken = ScheduleTaken m xs shadow targets curves rows

  -- the three checks of a schedule, with a table of its quantities
  pub scheduled : (qs : List ℕ) → ((k : ℕ) → get_or qs k 0 ≡ amounts k) → (v : Verdict Fault) → accept ≡ sheet → accept ≡ able → v ≡ prices (λ k. get_or qs k 0) → v ≡ schedule
  scheduled qs e v a b p = next sheet (able then prices amounts) v a (next able (prices amounts) v b (p ∙ ap prices (fun_ext e)))

  -- as many prices as requirements
  pub counted : (q : ℕ → ℕ) → accept ≡ prices q → length shadow ≡ m.requirements
  counted q e =
      let a = both (counts_verdict m.requirements (length shadow) (length targets) (length curves)) _ (sym e) in
      eqb-true _ _ (and_parts _ _ (wanted _ (RequirementCount m.requirements) a.0)).0

  -- what rows of accepted checks cost
  module _ (rs : List Reserves) (n : ℕ) (is : pos n ≡ cost m shadow (places xs) rs) where
    small : MapLaw m → length xs ≤ 128 → Taken → Small row_most rs → n ≤ most_cost
    small law few taken h =
        let f : length (places xs) ≤ 128 = rw length-map few in
        subst (λ (z : ℤ). nat_abs z ≤ most_cost) (sym is) (cost_most m shadow (places xs) 32 100000 128 row_most law.few_requirements taken.priced f rs h)

  -- what the schedule costs less what is paid already
  beyond_paid : (timing : Timing) → cost m shadow (places xs) (schedules rows) -ℤ paid_already m xs shadow timing ≡ cost_in_second m xs shadow rows timing
  beyond_paid DayAhead = omega (arith, ints)
  beyond_paid RealTime = sym (cost_differs m shadow (places xs) (schedules rows) (aheads xs))

  paid_small : (timing : Timing) (p : ℕ) → pos p ≡ paid_already m xs shadow timing → MapLaw m → length xs ≤ 128 → Taken → p ≤ most_cost
  paid_small DayAhead p is law few taken = omega (arith, ints)
  paid_small RealTime p is law few taken = small (aheads xs) p is law few taken taken.small_ahead

  -- a schedule that is accepted with its posting, whatever it is paid for
  accepted_for : (settled seconds : ℕ) (timing : Timing) → accept ≡ schedule → accept ≡ seconds_verdict settled seconds → accept ≡ posting_verdict (post_at m shadow seconds timing) xs rows → Taken
  accepted_for settled seconds DayAhead s t e = clearing_accepted m xs shadow targets curves rows (sym (next schedule _ accept s e))
  accepted_for settled seconds RealTime s t e =
      (interval_accepted m xs settled seconds shadow targets curves rows (sym (next schedule _ accept s (next (seconds_verdict settled seconds) _ accept t e)))).0

  -- ---- the accounts xs are those of the book, ys, and the schedule is accepted
  module _ (ys : List Supplier) (enrolled : xs ≡ ys) (table : List ProductPrices) (priced : (l : ℕ) → get_or table l no_prices ≡ prices_at_lem m shadow l) (checked : accept ≡ schedule) (settled seconds : ℕ) where
    abbrev terms : Timing → Terms
    terms timing = record { prices = table; seconds = seconds; timing = timing }

    abbrev rule : Timing → Supplier → Reserves → Supplier
    rule timing = post_at m shadow seconds timing

    posts_by : (timing : Timing) → (timing ≡ DayAhead → seconds ≡ hour_seconds) → (a : Supplier) (r : Reserves) → post_by (terms timing) a r ≡ rule timing a r
    posts_by DayAhead hour = (terms_keep_rule m shadow (terms DayAhead) priced).clearing refl (hour refl)
    posts_by RealTime hour = (terms_keep_rule m shadow (terms RealTime) priced).interval refl

    module _ (timing : Timing) (hour : timing ≡ DayAhead → seconds ≡ hour_seconds) where
      abbrev post_check : Verdict Fault
      post_check = scan (stays (post_by (terms timing))) AccountRange 0 xs rows

      abbrev time_check : Verdict Fault
      time_check = seconds_verdict settled seconds

      posted : (v : Verdict Fault) → v ≡ post_check → v ≡ posting_verdict (rule timing) xs rows
      posted v e = e ∙ posts_alike (terms timing) (rule timing) (posts_by timing hour) 0 xs rows

      pub planned_told : (v : Verdict Fault) → accept ≡ time_check → v ≡ post_check → v ≡ (schedule_verdict m ys shadow targets curves rows then time_check then posting_verdict (rule timing) ys rows)
      planned_told v t e =
          next schedule (time_check then posting_verdict (rule timing) xs rows) v checked (next time_check (posting_verdict (rule timing) xs rows) v t (posted v e))
          ∙ ap (λ (zs : List Supplier). schedule_verdict m zs shadow targets curves rows then time_check then posting_verdict (rule timing) zs rows) enrolled

      module _ (qs : List ℕ) (weighed : Weighed m xs shadow rows qs) (n : ℕ) (costs : n ≡ cost_at shadow qs) (p : ℕ) (paid : pos p ≡ paid_already m xs shadow timing) where
        is_real : pos n ≡ cost m shadow (places xs) (schedules rows)
        is_real = cost_is m shadow (places xs) (schedules rows) qs n weighed.priced weighed.value costs

        pub planned_small : MapLaw m → length xs ≤ 128 → accept ≡ time_check → accept ≡ post_check → (n ≤ most_cost) × (p ≤ most_cost)
        planned_small law few t e =
            let taken = accepted_for settled seconds timing checked t (posted accept e) in
            (small (schedules rows) n is_real law few taken taken.small, paid_small timing p paid law few taken)

        pub plan_holds : (z : ℤ) → z ≡ (pos n -ℤ pos p) *ℤ pos seconds → nat_abs z ≤ most_cost * seconds
            → Planned (rule timing) (cost_in_second m ys shadow rows timing) seconds (record { terms = terms timing; cost = z })
        plan_holds z e b = record {
          posts = posts_by timing hour;
          cost =
              e
              ∙ ap (λ (y : ℤ). (y -ℤ pos p) *ℤ pos seconds) is_real
              ∙ ap (λ (y : ℤ). (cost m shadow (places xs) (schedules rows) -ℤ y) *ℤ pos seconds) paid
              ∙ ap (λ (y : ℤ). y *ℤ pos seconds) (beyond_paid timing)
              ∙ ap (λ (zs : List Supplier). cost_in_second m zs shadow rows timing *ℤ pos seconds) enrolled;
          bound = b;
        }
