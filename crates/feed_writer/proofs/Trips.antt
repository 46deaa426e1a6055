-- Records that are written, and read back.
use Rattle.std.proofs.Common.{◌≡◌, ℕ, ◌+◌, ◌*◌, true, leb, List, [], ◌∷◌, ◌++◌, length, drop, Some, Ok, Err, Result, IfOk, sym, refl, ap, ◌∙◌, arith}
use Rattle.faults.specs.declared.fault.Fault.{Fault}
use Rattle.std.specs.List.{flat_map, AllByRecursion}
use Rattle.std.proofs.lemmas.List.{append_assoc, length-append, take_at, drop_at}
use Rattle.std.proofs.lemmas.Bool.{and_parts, eqb-true, le-leb}
use Rattle.accounts.specs.declared.withdrawal.WithdrawalRow.{WithdrawalRow}
use Rattle.feed.specs.declared.kind.Kind.{Kind}
use Rattle.feed.specs.declared.kind.Kind.TheVariants.{Supplier, Customer, Open, Clear, Interval, Close, Void}
use Rattle.accounts.specs.declared.enrolment.NewSupplier.{NewSupplier}
use Rattle.feed.specs.Numbers.{le32, numbers_in}
use Rattle.feed.specs.Kinds.{kind_of_lem, code_of, allowed, body_length_lem}
use Rattle.feed.specs.Entries.{Entry, SheetValues, supplier, customer, opening, clearing, interval, closing, voiding, sheet_in, body_says, schedule_rows, withdrawal_rows}
use Rattle.feed.specs.Front.{front, whole}
use Rattle.feed.proofs.Cuts.{numbers_cut, schedules_cut, withdrawals_cut}
use Rattle.feed.proofs.Fronts.{front_headed}
use Rattle.feed.proofs.Sizes.{few}
use Rattle.feed_writer.specs.Bytes.{bytes16, bytes32, number_bytes, schedule_bytes, withdrawal_bytes, header, supplier_bytes, sheet_bytes, closing_bytes, kind_said, first_size, second_size, body_bytes, bytes_of, written}
use Rattle.feed_writer.specs.Writing.{paired, writable, length_of, write_answer, after, Started, Wrote}
use Rattle.feed_writer.specs.Fitting.{Word, SupplierFits, SheetFits, ClosingFits, Fitting}
use Rattle.feed_writer.specs.Laws.{RecordBackLaw, FeedBackLaw}
use Rattle.feed_writer.specs.Lengths.{length_bytes32, length_header}
use Rattle.feed_writer.proofs.Buffers.{length_numbers, length_row_numbers, length_schedules, length_withdrawals}
use Rattle.feed_writer.proofs.Numbers.{back16, back32, number_back, numbers_back, schedules_back, withdrawals_back}

-- ---- headers
code_back : (k : Kind) → kind_of_lem (code_of k) ≡ Some k
code_back Supplier = refl
code_back Customer = refl
code_back Open = refl
code_back Clear = refl
code_back Interval = refl
code_back Close = refl
code_back Void = refl

-- a header, a body of the length that goes with it, and whatever follows
headed : (k : Kind) (n m : ℕ) (b later : List ℕ) → allowed k n m ≡ true → length b ≡ body_length_lem k n m
    → front ((header (code_of k) n m ++ b) ++ later) ≡ whole (body_says k n m b) (5 + body_length_lem k n m)
unfolding header bytes16
headed k n m b later a l =
    let f = few k n m a in
    let fits : leb (body_length_lem k n m) (length (b ++ later)) ≡ true = le-leb _ _ (simp length-append (omega arith)) in
    sym (front_headed ((header (code_of k) n m ++ b) ++ later) k n m (b ++ later) (omega arith) (sym (code_back k)) (sym (back16 n (omega arith))) (sym (back16 m (omega arith))) refl)
    ∙ rw (a, fits, take_at b later (body_length_lem k n m) l)

-- ---- bodies
numbers_first : (ns rest : List ℕ) → AllByRecursion Word ns → numbers_in (flat_map bytes32 ns ++ rest) (length ns) ≡ ns
numbers_first ns rest h =
    sym (numbers_cut (flat_map bytes32 ns ++ rest) (4 * length ns) (length ns) (omega arith))
    ∙ ap (λ b. numbers_in b (length ns)) (take_at (flat_map bytes32 ns) rest _ (length_numbers ns))
    ∙ numbers_back ns h

module _ (s : SheetValues) (same : length s.prices ≡ length s.targets) where
  pub length_sheet : length (sheet_bytes s) ≡ 8 * length s.prices + 24 * length s.rows
  unfolding sheet_bytes
  length_sheet = simp length-append (omega (arith, length_numbers s.prices, length_numbers s.targets, length_row_numbers (λ r. r.number) s.rows, length_schedules s.rows))

  pub sheet_back : SheetFits s → sheet_in (sheet_bytes s) (length s.prices) (length s.rows) ≡ s
  unfolding sheet_bytes
  sheet_back f =
      let n : ℕ = length s.prices in
      let m : ℕ = length s.rows in
      let P : List ℕ = flat_map bytes32 s.prices in
      let T : List ℕ = flat_map bytes32 s.targets in
      let N : List ℕ = number_bytes (λ r. r.number) s.rows in
      let R : List ℕ = flat_map schedule_bytes s.rows in
      let all : P ++ T ++ N ++ R ≡ P ++ (T ++ (N ++ R)) = simp append_assoc in
      let dt : drop (4 * n) (P ++ (T ++ (N ++ R))) ≡ T ++ (N ++ R) = drop_at P (T ++ (N ++ R)) (4 * n) (length_numbers s.prices) in
      let l2 : length (P ++ T) ≡ 8 * n = simp length-append (omega (arith, length_numbers s.prices, length_numbers s.targets)) in
      let dn : drop (8 * n) (P ++ (T ++ (N ++ R))) ≡ N ++ R = ap (drop (8 * n)) (sym (append_assoc P T (N ++ R))) ∙ drop_at (P ++ T) (N ++ R) (8 * n) l2 in
      let l3 : length (P ++ T ++ N) ≡ 8 * n + 4 * m = simp length-append (omega (arith, length_numbers s.prices, length_numbers s.targets, length_row_numbers (λ r. r.number) s.rows)) in
      let dr : drop (8 * n + 4 * m) (P ++ (T ++ (N ++ R))) ≡ R = ap (drop (8 * n + 4 * m)) (sym all) ∙ drop_at (P ++ T ++ N) R (8 * n + 4 * m) l3 in
      let ep : numbers_in (P ++ (T ++ (N ++ R))) n ≡ s.prices = numbers_first s.prices (T ++ (N ++ R)) f.prices in
      let et : numbers_in (T ++ (N ++ R)) n ≡ s.targets = ap (numbers_in (T ++ (N ++ R))) same ∙ numbers_first s.targets (N ++ R) f.targets in
      let er : schedule_rows (N ++ R) R m ≡ s.rows =
      sym (schedules_cut (N ++ R) R (4 * m) m (omega arith))
      ∙ ap (λ b. schedule_rows b R m) (take_at N R (4 * m) (length_row_numbers (λ r. r.number) s.rows))
      ∙ schedules_back s.rows f.numbers f.rows in
      rw (all, dt, dn, dr, ep, et, er)

length_closing : (rows : List WithdrawalRow) → length (closing_bytes rows) ≡ 16 * length rows
unfolding closing_bytes
length_closing rows = simp length-append (omega (arith, length_row_numbers (λ r. r.number) rows, length_withdrawals rows))

closing_back : (rows : List WithdrawalRow) → ClosingFits rows
    → withdrawal_rows (closing_bytes rows) (drop (4 * length rows) (closing_bytes rows)) (length rows) ≡ rows
unfolding closing_bytes
closing_back rows f =
    let m : ℕ = length rows in
    let N : List ℕ = number_bytes (λ r. r.number) rows in
    let R : List ℕ = flat_map withdrawal_bytes rows in
    let l : length N ≡ 4 * m = length_row_numbers (λ r. r.number) rows in
    rw (drop_at N R (4 * m) l)
    (sym (withdrawals_cut (N ++ R) R (4 * m) m (omega arith)) ∙ ap (λ b. withdrawal_rows b R m) (take_at N R (4 * m) l) ∙ withdrawals_back rows f.numbers f.rows)

supplier_back : (s : NewSupplier) → SupplierFits s → body_says Supplier 0 0 (supplier_bytes s) ≡ supplier s
unfolding supplier_bytes bytes16 bytes32
supplier_back s f = rw (back32 s.number f.number, back16 s.location f.location, back16 s.kind f.kind, back32 s.upper f.upper, back32 s.response f.response)

length_supplier : (s : NewSupplier) → length (supplier_bytes s) ≡ 16
unfolding supplier_bytes bytes16 bytes32
length_supplier s = refl

-- an interval's sheet follows its seconds
after_word : (n : ℕ) (b : List ℕ) → Word n → (le32 (bytes32 n ++ b) 0 ≡ n) × (drop 4 (bytes32 n ++ b) ≡ b)
unfolding bytes32
after_word n b h = (back32 n h, refl)

length_body : (e : Entry) → paired e ≡ true → length (body_bytes e) ≡ body_length_lem (kind_said e) (first_size e) (second_size e)
length_body (supplier s) p = length_supplier s
length_body (customer number) p = length_bytes32 number
length_body (opening hour) p = length_bytes32 hour
length_body (clearing s) p = length_sheet s (eqb-true _ _ p)
length_body (interval seconds s) p = simp length-append (omega (arith, length_bytes32 seconds, length_sheet s (eqb-true _ _ p)))
length_body (closing rows) p = length_closing rows
length_body voiding p = refl

body_back : (e : Entry) → paired e ≡ true → Fitting e → body_says (kind_said e) (first_size e) (second_size e) (body_bytes e) ≡ e
body_back (supplier s) p f = supplier_back s f
body_back (customer number) p f = ap customer (number_back number f)
body_back (opening hour) p f = ap opening (number_back hour f)
body_back (clearing s) p f = ap clearing (sheet_back s (eqb-true _ _ p) f)
body_back (interval seconds s) p f =
    let w = after_word seconds (sheet_bytes s) f.0 in
    rw (w.0, w.1, sheet_back s (eqb-true _ _ p) f.1)
body_back (closing rows) p f = ap closing (closing_back rows f)
body_back voiding p f = refl

-- ---- records, and feeds of them
pub length_record : (e : Entry) → paired e ≡ true → length (bytes_of e) ≡ length_of e
length_record e p = simp length-append (omega (arith, length_header (code_of (kind_said e)) (first_size e) (second_size e), length_body e p))

pub record_back : RecordBackLaw
record_back e later w f =
    let p = and_parts (paired e) (allowed (kind_said e) (first_size e) (second_size e)) w in
    headed (kind_said e) (first_size e) (second_size e) (body_bytes e) later p.1 (length_body e p.0)
    ∙ ap (λ d. whole d (length_of e)) (body_back e p.0 f)

pub feed_back : FeedBackLaw
feed_back [] later h = refl
feed_back (e ∷ es) later h =
    let rest : List ℕ = flat_map bytes_of es ++ later in
    let w : writable e ≡ true = h.0.0 in
    let p = and_parts (paired e) (allowed (kind_said e) (first_size e) (second_size e)) w in
    rw (append_assoc (bytes_of e) (flat_map bytes_of es) later)
    (length_of e, record_back e rest w h.0.1, rw (drop_at (bytes_of e) rest (length_of e) (length_record e p.0)) (feed_back es later h.1))

-- ---- what a writer leaves
pub wrote : (e : Entry) (n : ℕ) (before exit : List ℕ) → paired e ≡ true → Started (kind_said e) (first_size e) (second_size e) n (length before) → Fitting e
    → exit ≡ written 0 (bytes_of e) before → Wrote e (Ok n) before exit
unfolding written
wrote e n before exit p s f h =
    let w : writable e ≡ true = rw (p, s.sizes) in
    let q : n ≡ length_of e = s.whole in
    let r : leb (length_of e) (length before) ≡ true = le-leb _ _ (omega (arith, s.fits)) in
    record {
      reply = rw (w, r, q);
      holds = h;
      reads = ap front h ∙ record_back e _ w f ∙ ap (whole e) (sym q);
    }

-- what a writer leaves, whatever it answers
pub wrote_either : (e : Entry) (r : Result ℕ Fault) (before exit : List ℕ) → paired e ≡ true → Fitting e
    → r ≡ write_answer (allowed (kind_said e) (first_size e) (second_size e)) (length_of e) (length before)
    → IfOk r (λ n. Started (kind_said e) (first_size e) (second_size e) n (length before)) → exit ≡ after r (bytes_of e) before → Wrote e r before exit
wrote_either e (Ok n) before exit p f q s h = wrote e n before exit p s f h
wrote_either e (Err x) before exit p f q s h = record { reply = rw p q; holds = h; reads = tt }
