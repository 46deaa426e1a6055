-- Bytes that follow, and records one after another.
use Rattle.std.proofs.Common.{◌≡◌, ℕ, ◌≤◌, true, false, eqb, ltb, leb, List, [], ◌∷◌, ◌++◌, length, get_or, drop, replicate, Some, None, Option, sym, refl, ap, ◌∙◌, ⊎_elim, arith}
use Rattle.std.proofs.lemmas.List.{length-append, length-drop, length-replicate, take-append-le, drop-append-le, get_or_append_left}
use Rattle.std.proofs.lemmas.Bool.{cases_Bool, leb-true, le-leb, ltb-false, ne_eqb, le-ltb}
use Rattle.feed.specs.declared.kind.Kind.{Kind}
use Rattle.feed.specs.Numbers.{le16}
use Rattle.feed.specs.Kinds.{kind_of_lem, allowed, body_length_lem}
use Rattle.feed.specs.Entries.{Entry}
use Rattle.feed.specs.Front.{whole, front, body_front, kind_front}
use Rattle.feed.specs.Runs.{Reads, Settled, LaterBytesLaw, PiecesLaw, TruncatedLaw, EndingLaw, OneReadingLaw}
use Rattle.feed.proofs.Sizes.{longest}
use Rattle.feed.proofs.Fronts.{front_whole}

-- ---- the front with later bytes
module _ (later : List ℕ) where
  body_later : (k : Kind) (n m : ℕ) (rest : List ℕ) → Settled (body_front k n m rest) → body_front k n m (rest ++ later) ≡ body_front k n m rest
  body_later k n m rest s =
      let l : ℕ = body_length_lem k n m in
      ⊎_elim
      (λ (a : allowed k n m ≡ true). ⊎_elim
      (λ (b : leb l (length rest) ≡ true).
      let h : l ≤ length rest = leb-true _ _ b in
      let d : leb l (length (rest ++ later)) ≡ true = le-leb _ _ (simp length-append (omega arith)) in
      rw (a, b, d, take-append-le l rest later h))
      (λ (b : leb l (length rest) ≡ false). absurd (rw (a, b) at s))
      (cases_Bool (leb l (length rest))))
      (λ (a : allowed k n m ≡ false). rw a)
      (cases_Bool (allowed k n m))

  kind_later : (o : Option Kind) (n m : ℕ) (rest : List ℕ) → Settled (kind_front o n m rest) → kind_front o n m (rest ++ later) ≡ kind_front o n m rest
  kind_later None n m rest s = refl
  kind_later (Some k) n m rest s = body_later k n m rest s

  headed_later : (bs : List ℕ) → 5 ≤ length bs → Settled (front bs) → front (bs ++ later) ≡ front bs
  headed_later bs h s =
      let a : eqb (length bs) 0 ≡ false = ne_eqb _ _ (λ q. omega arith) in
      let b : ltb (length bs) 5 ≡ false = le-ltb _ _ h in
      let d : eqb (length (bs ++ later)) 0 ≡ false = ne_eqb _ _ (λ q. omega (arith, length-append bs later)) in
      let e : ltb (length (bs ++ later)) 5 ≡ false = le-ltb _ _ (simp length-append (omega arith)) in
      let g0 : get_or (bs ++ later) 0 0 ≡ get_or bs 0 0 = get_or_append_left bs later 0 0 (omega arith) in
      let g1 : get_or (bs ++ later) 1 0 ≡ get_or bs 1 0 = get_or_append_left bs later 0 1 (omega arith) in
      let g2 : get_or (bs ++ later) 2 0 ≡ get_or bs 2 0 = get_or_append_left bs later 0 2 (omega arith) in
      let g3 : get_or (bs ++ later) 3 0 ≡ get_or bs 3 0 = get_or_append_left bs later 0 3 (omega arith) in
      let g4 : get_or (bs ++ later) 4 0 ≡ get_or bs 4 0 = get_or_append_left bs later 0 4 (omega arith) in
      rw (d, e, a, b, g0, g1, g2, g3, g4, drop-append-le 5 bs later h)
      (kind_later (kind_of_lem (get_or bs 0 0)) (le16 bs 1) (le16 bs 3) (drop 5 bs) (rw (a, b) at s))

pub later_bytes : LaterBytesLaw
later_bytes bs later s =
    ⊎_elim
    (λ (a : eqb (length bs) 0 ≡ true). absurd (rw a at s))
    (λ (a : eqb (length bs) 0 ≡ false). ⊎_elim
    (λ (b : ltb (length bs) 5 ≡ true). absurd (rw (a, b) at s))
    (λ (b : ltb (length bs) 5 ≡ false). headed_later later bs (ltb-false _ _ b) s)
    (cases_Bool (ltb (length bs) 5)))
    (cases_Bool (eqb (length bs) 0))

-- ---- with enough bytes the front is settled
kind_settled : (o : Option Kind) (n m : ℕ) (rest : List ℕ) → 4096 ≤ length rest → Settled (kind_front o n m rest)
kind_settled None n m rest h = tt
kind_settled (Some k) n m rest h =
    let l : ℕ = body_length_lem k n m in
    ⊎_elim
    (λ (a : allowed k n m ≡ true).
    let b : leb l (length rest) ≡ true = le-leb _ _ (omega (arith, longest k n m a)) in
    rw (a, b) tt)
    (λ (a : allowed k n m ≡ false). rw a tt)
    (cases_Bool (allowed k n m))

pub long_settled : (bs : List ℕ) → 4101 ≤ length bs → Settled (front bs)
long_settled bs h =
    let a : eqb (length bs) 0 ≡ false = ne_eqb _ _ (λ q. omega arith) in
    let b : ltb (length bs) 5 ≡ false = le-ltb _ _ (omega arith) in
    rw (a, b) (kind_settled (kind_of_lem (get_or bs 0 0)) (le16 bs 1) (le16 bs 3) (drop 5 bs) (rw (length-drop 5 bs) (omega arith)))

pub truncated_law : TruncatedLaw
truncated_law bs h = (4101, long_settled (bs ++ replicate 4101 0) (rw (length-append bs (replicate 4101 0), length-replicate {A = ℕ} 4101 0) (omega arith)))

-- ---- records one after another
pub pieces_law : PiecesLaw
pieces_law bs later [] left r = ap (λ xs. xs ++ later) r
pieces_law bs later (e ∷ es) left (n, h, r) =
    let w = front_whole e n bs h in
    let s : Settled (front bs) = rw h tt in
    (n, later_bytes bs later s ∙ h, rw (drop-append-le n bs later w.1) (pieces_law (drop n bs) later es left r))

pub ending_law : EndingLaw
ending_law bs [] left r = omega (arith, ap length r)
ending_law bs (e ∷ es) left (n, h, r) =
    let w = front_whole e n bs h in
    omega (arith, w.0, w.1, length-drop n bs, ending_law (drop n bs) es left r)

pub one_reading_law : OneReadingLaw
one_reading_law bs [] [] left rest r q l = (refl, sym r ∙ q)
one_reading_law bs [] (d ∷ ds) left rest r q l = absurd (omega arith)
one_reading_law bs (e ∷ es) [] left rest r q l = absurd (omega arith)
one_reading_law bs (e ∷ es) (d ∷ ds) left rest (n, h, r) (m, k, q) l =
    let w : whole e n ≡ whole d m = sym h ∙ k in
    let a : e ≡ d = cc in
    let b : n ≡ m = cc in
    let t = one_reading_law (drop n bs) es ds left rest r (rw b q) (omega arith) in
    (rw (a, t.0), t.1)

-- one more record
pub reads_push : (bs : List ℕ) (es : List Entry) (left : List ℕ) (e : Entry) (n : ℕ) → Reads bs es left → front left ≡ whole e n → Reads bs (es ++ e ∷ []) (drop n left)
reads_push bs [] left e n r h = (n, ap front r ∙ h, ap (drop n) r)
reads_push bs (d ∷ es) left e n (m, k, r) h = (m, k, reads_push (drop m bs) es left e n r h)
