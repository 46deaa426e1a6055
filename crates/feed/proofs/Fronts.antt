-- What stands at the front of some bytes.
use Rattle.std.proofs.Common.{◌≡◌, ℕ, ◌+◌, ◌*◌, ◌≤◌, true, false, eqb, ltb, leb, List, [], length, get_or, take, drop, Some, None, Ok, Err, Option, Result, refl, ap, subst, ⊎_elim, arith}
use Rattle.std.proofs.lemmas.List.FromFn.{length-map-range_with_len}
use Rattle.std.proofs.lemmas.List.{length-drop, nil_from_length}
use Rattle.std.proofs.lemmas.Bool.{ne_eqb, le-ltb, leb-true, ltb-false, eqb-true, cases_Bool}
use Rattle.faults.specs.declared.fault.Fault.{Fault}
use Rattle.faults.specs.declared.fault.Fault.TheVariants.{Truncated, UnknownKind, SizeNotAllowed}
use Rattle.faults.specs.Told.{told_of}
use Rattle.feed.specs.declared.kind.Kind.{Kind}
use Rattle.feed.specs.declared.kind.Kind.TheVariants.{Supplier, Customer, Open, Clear, Interval, Close, Void}
use Rattle.feed.specs.Numbers.{le16, number_in}
use Rattle.feed.specs.Kinds.{kind_of_lem, allowed, sheet_sizes, body_length_lem}
use Rattle.feed.specs.Entries.{Entry, sheet_in, body_says, Sized, SheetSized, schedule_row, withdrawal_row}
use Rattle.feed.specs.Front.{Front, ended, truncated, unknown_kind, size_not_allowed, whole, front, body_front, kind_front, size}
use Rattle.feed.specs.Reading.{answer, long_answer}
use Rattle.feed.proofs.Sizes.{sheet_few, closing_few}

-- ---- where there is a header
pub front_headed : (bs : List ℕ) (k : Kind) (n m : ℕ) (rest : List ℕ) → 5 ≤ length bs → Some k ≡ kind_of_lem (get_or bs 0 0)
    → n ≡ le16 bs 1 → m ≡ le16 bs 3 → rest ≡ drop 5 bs → body_front k n m rest ≡ front bs
front_headed bs k n m rest h hk hn hm hr =
    let e : eqb (length bs) 0 ≡ false = ne_eqb _ _ (λ q. omega arith) in
    let l : ltb (length bs) 5 ≡ false = le-ltb _ _ h in
    rw (hn, hm, hr, e, l, ← hk)

-- two fronts or answers that are not the same
never : {X : Type 0} → ◌≡◌ {A = ℕ} 0 1 → X
never z = absurd (omega arith)

-- ---- what an answer with a length tells
module _ (o : ℕ) where
  pub at_some : (f : Front) (e : Entry) (n : ℕ) → ◌≡◌ {A = Result (Option (Entry × ℕ)) Fault} (Ok (Some (e, n))) (long_answer o f) → f ≡ whole e n
  at_some ended e n h = never (cc)
  at_some truncated e n h = never (cc)
  at_some unknown_kind e n h = never (cc)
  at_some size_not_allowed e n h = never (cc)
  at_some (whole d k) e n h =
      let p : ◌≡◌ {A = Entry × ℕ} (e, n) (d, k) = cc in
      let a : e ≡ d = ap (λ q. q.0) p in
      let b : n ≡ k = ap (λ q. q.1) p in
      rw (a, b)

  pub at_none : (f : Front) → ◌≡◌ {A = Result (Option (Entry × ℕ)) Fault} (Ok None) (long_answer o f) → f ≡ ended
  at_none ended h = refl
  at_none truncated h = never (cc)
  at_none unknown_kind h = never (cc)
  at_none size_not_allowed h = never (cc)
  at_none (whole d k) h = never (cc)

  pub at_fault : (f : Front) (t : Fault) → ◌≡◌ {A = Result (Option (Entry × ℕ)) Fault} (Err t) (long_answer o f)
      → (◌≡◌ {A = Result (Option Entry) Fault} (Err t) (answer o f)) × (size f ≡ 0) × ((told_of t).value ≡ Some o)
  at_fault ended t h = never (cc)
  at_fault truncated t h = (cc, refl, ap (λ (x : Fault). (told_of x).value) (let e : t ≡ Truncated o = cc in e))
  at_fault unknown_kind t h = (cc, refl, ap (λ (x : Fault). (told_of x).value) (let e : t ≡ UnknownKind o = cc in e))
  at_fault size_not_allowed t h = (cc, refl, ap (λ (x : Fault). (told_of x).value) (let e : t ≡ SizeNotAllowed o = cc in e))
  at_fault (whole d k) t h = never (cc)

  -- the same of an answer without
  pub answer_some : (f : Front) (e : Entry) → ◌≡◌ {A = Result (Option Entry) Fault} (Ok (Some e)) (answer o f) → f ≡ whole e (size f)
  answer_some ended e h = never (cc)
  answer_some truncated e h = never (cc)
  answer_some unknown_kind e h = never (cc)
  answer_some size_not_allowed e h = never (cc)
  answer_some (whole d k) e h = cc

  pub answer_none : (f : Front) → ◌≡◌ {A = Result (Option Entry) Fault} (Ok None) (answer o f) → f ≡ ended
  answer_none ended h = refl
  answer_none truncated h = never (cc)
  answer_none unknown_kind h = never (cc)
  answer_none size_not_allowed h = never (cc)
  answer_none (whole d k) h = never (cc)

-- ---- what a whole record is like
sheet_sized : (b : List ℕ) (n m : ℕ) → sheet_sizes n m ≡ true → SheetSized (sheet_in b n m)
sheet_sized b n m h =
    let f = sheet_few n m h in
    let l = length-map-range_with_len (number_in b) 0 n in
    let t = length-map-range_with_len (number_in (drop (4 * n) b)) 0 n in
    let r = length-map-range_with_len (schedule_row (drop (8 * n) b) (drop (8 * n + 4 * m) b)) 0 m in
    record {
      some = omega arith;
      few = omega arith;
      paired = omega arith;
      listed = omega arith;
    }

body_sized : (k : Kind) (n m : ℕ) (b : List ℕ) → allowed k n m ≡ true → Sized (body_says k n m b)
body_sized Supplier n m b h = tt
body_sized Customer n m b h = tt
body_sized Open n m b h = tt
body_sized Clear n m b h = sheet_sized b n m h
body_sized Interval n m b h = sheet_sized (drop 4 b) n m h
body_sized Close n m b h =
    let f = closing_few n m h in
    omega (arith, length-map-range_with_len (withdrawal_row b (drop (4 * m) b)) 0 m)
body_sized Void n m b h = tt

-- a whole record has a header at least, no more bytes than there are, and lists that are no longer than they may be
abbrev Whole : ℕ → Entry → ℕ → Type 0
Whole room e s = (5 ≤ s) × (s ≤ room) × Sized e

module _ (e : Entry) (s : ℕ) where
  body_whole : (k : Kind) (n m : ℕ) (rest : List ℕ) → body_front k n m rest ≡ whole e s → Whole (5 + length rest) e s
  body_whole k n m rest h =
      let l : ℕ = body_length_lem k n m in
      ⊎_elim
      (λ (a : allowed k n m ≡ true). ⊎_elim
      (λ (b : leb l (length rest) ≡ true).
      let w : whole (body_says k n m (take l rest)) (5 + l) ≡ whole e s = rw (a, b) at h in
      let d : body_says k n m (take l rest) ≡ e = cc in
      let q : 5 + l ≡ s = cc in
      (omega arith, omega (arith, leb-true _ _ b), subst Sized d (body_sized k n m (take l rest) a)))
      (λ (b : leb l (length rest) ≡ false). let w : truncated ≡ whole e s = rw (a, b) at h in never (cc))
      (cases_Bool (leb l (length rest))))
      (λ (a : allowed k n m ≡ false). let w : size_not_allowed ≡ whole e s = rw a at h in never (cc))
      (cases_Bool (allowed k n m))

  kind_whole : (o : Option Kind) (n m : ℕ) (rest : List ℕ) → kind_front o n m rest ≡ whole e s → Whole (5 + length rest) e s
  kind_whole None n m rest h = never (cc)
  kind_whole (Some k) n m rest h = body_whole k n m rest h

  pub front_whole : (bs : List ℕ) → front bs ≡ whole e s → Whole (length bs) e s
  front_whole bs h =
      ⊎_elim
      (λ (a : eqb (length bs) 0 ≡ true). let w : ended ≡ whole e s = rw a at h in never (cc))
      (λ (a : eqb (length bs) 0 ≡ false). ⊎_elim
      (λ (b : ltb (length bs) 5 ≡ true). let w : truncated ≡ whole e s = rw (a, b) at h in never (cc))
      (λ (b : ltb (length bs) 5 ≡ false).
      let w = kind_whole (kind_of_lem (get_or bs 0 0)) (le16 bs 1) (le16 bs 3) (drop 5 bs) (rw (a, b) at h) in
      (w.0, omega (arith, w.1, length-drop 5 bs, ltb-false _ _ b), w.2))
      (cases_Bool (ltb (length bs) 5)))
      (cases_Bool (eqb (length bs) 0))

-- ---- where no byte is left
body_goes_on : (k : Kind) (n m : ℕ) (rest : List ℕ) → body_front k n m rest ≡ ended → ⊥
body_goes_on k n m rest h =
    let l : ℕ = body_length_lem k n m in
    ⊎_elim
    (λ (a : allowed k n m ≡ true). ⊎_elim
    (λ (b : leb l (length rest) ≡ true). let w : whole (body_says k n m (take l rest)) (5 + l) ≡ ended = rw (a, b) at h in never (cc))
    (λ (b : leb l (length rest) ≡ false). let w : truncated ≡ ended = rw (a, b) at h in never (cc))
    (cases_Bool (leb l (length rest))))
    (λ (a : allowed k n m ≡ false). let w : size_not_allowed ≡ ended = rw a at h in never (cc))
    (cases_Bool (allowed k n m))

kind_goes_on : (o : Option Kind) (n m : ℕ) (rest : List ℕ) → kind_front o n m rest ≡ ended → ⊥
kind_goes_on None n m rest h = never (cc)
kind_goes_on (Some k) n m rest h = body_goes_on k n m rest h

pub front_ended : (bs : List ℕ) → front bs ≡ ended → bs ≡ []
front_ended bs h =
    ⊎_elim
    (λ (a : eqb (length bs) 0 ≡ true). nil_from_length bs (eqb-true _ _ a))
    (λ (a : eqb (length bs) 0 ≡ false). ⊎_elim
    (λ (b : ltb (length bs) 5 ≡ true). let w : truncated ≡ ended = rw (a, b) at h in never (cc))
    (λ (b : ltb (length bs) 5 ≡ false). absurd (kind_goes_on (kind_of_lem (get_or bs 0 0)) (le16 bs 1) (le16 bs 3) (drop 5 bs) (rw (a, b) at h)))
    (cases_Bool (ltb (length bs) 5)))
    (cases_Bool (eqb (length bs) 0))
