-- Lists that stand in parts of some bytes.
use Rattle.std.proofs.Common.{◌≡◌, ℕ, zero, suc, ◌+◌, ◌*◌, ◌/◌, ◌<◌, ◌≤◌, min, List, map, length, take, drop, refl, ap, ◌∙◌, arith}
use Rattle.std.specs.List.{range_with_len}
use Rattle.std.proofs.lemmas.List.{get_or-take, drop-drop, length-take, length-drop}
use Rattle.feed.specs.Numbers.{le32, numbers_in}
use Rattle.feed.specs.Entries.{SheetValues, schedule_rows, withdrawal_rows, sheet_in, number_count, row_count}

-- two functions that agree at the n numbers from a on
pub same_counted : {X : Type 0} (f g : ℕ → X) (a n : ℕ) → ((i : ℕ) → a ≤ i → i < a + n → f i ≡ g i) → map f (range_with_len a n) ≡ map g (range_with_len a n)
same_counted f g a zero h = refl
same_counted f g a (suc n) h =
    let e = h a (omega arith) (omega arith) in
    let r = same_counted f g (a + 1) n (λ i p q. h i (omega arith) (omega arith)) in
    rw (e, r)

-- what stands within the first k bytes is read from them alone
pub le32_cut : (bs : List ℕ) (k i : ℕ) → i + 4 ≤ k → le32 (take k bs) i ≡ le32 bs i
le32_cut bs k i h =
    let a : i < k = omega arith in
    let b : i + 1 < k = omega arith in
    let c : i + 2 < k = omega arith in
    let d : i + 3 < k = omega arith in
    rw (get_or-take k bs i 0 a, get_or-take k bs (i + 1) 0 b, get_or-take k bs (i + 2) 0 c, get_or-take k bs (i + 3) 0 d)

pub numbers_cut : (bs : List ℕ) (k n : ℕ) → 4 * n ≤ k → numbers_in (take k bs) n ≡ numbers_in bs n
numbers_cut bs k n h = same_counted _ _ 0 n (λ i p q. le32_cut bs k (4 * i) (omega arith))

pub schedules_cut : (ns rs : List ℕ) (k m : ℕ) → 4 * m ≤ k → schedule_rows (take k ns) rs m ≡ schedule_rows ns rs m
schedules_cut ns rs k m h = same_counted _ _ 0 m (λ i p q. rw (le32_cut ns k (4 * i) (omega arith)))

pub withdrawals_cut : (ns rs : List ℕ) (k m : ℕ) → 4 * m ≤ k → withdrawal_rows (take k ns) rs m ≡ withdrawal_rows ns rs m
withdrawals_cut ns rs k m h = same_counted _ _ 0 m (λ i p q. rw (le32_cut ns k (4 * i) (omega arith)))

-- ---- bodies that are cut, part after part
module _ (b p r t u s w : List ℕ) (n m : ℕ) (long : length b ≡ 8 * n + 24 * m)
    (hp : p ≡ take (4 * n) b) (hr : r ≡ drop (4 * n) b) (ht : t ≡ take (4 * n) r) (hu : u ≡ drop (4 * n) r) (hs : s ≡ take (4 * m) u) (hw : w ≡ drop (4 * m) u) where
  rest : u ≡ drop (8 * n) b
  rest = hu ∙ ap (drop (4 * n)) hr ∙ drop-drop (4 * n) (4 * n) b ∙ ap (λ k. drop k b) (omega arith)

  rows : w ≡ drop (8 * n + 4 * m) b
  rows = hw ∙ ap (drop (4 * m)) rest ∙ drop-drop (4 * m) (8 * n) b

  pub sheet_cut : ◌≡◌ {A = SheetValues}
      (record { prices = numbers_in p (number_count p); targets = numbers_in t (number_count t); rows = schedule_rows s w (row_count 20 s w) })
      (sheet_in b n m)
  sheet_cut =
      let lp : number_count p ≡ n = omega (arith, ap length hp, length-take (4 * n) b) in
      let lt : number_count t ≡ n = omega (arith, ap length ht, length-take (4 * n) r, ap length hr, length-drop (4 * n) b) in
      let ls : number_count s ≡ m = omega (arith, ap length hs, length-take (4 * m) u, ap length rest, length-drop (8 * n) b) in
      let least : min (number_count s) (length w / 20) ≡ m = omega (arith, ls, ap length rows, length-drop (8 * n + 4 * m) b) in
      let lw : row_count 20 s w ≡ m = least in
      let ep = numbers_cut b (4 * n) n (omega arith) in
      let et = numbers_cut (drop (4 * n) b) (4 * n) n (omega arith) in
      let es = schedules_cut (drop (8 * n) b) (drop (8 * n + 4 * m) b) (4 * m) m (omega arith) in
      rw (lp, lt, lw, hp, ht, hr, hs, rows, rest, ep, et, es)

module _ (b s w : List ℕ) (m : ℕ) (long : length b ≡ 16 * m) (hs : s ≡ take (4 * m) b) (hw : w ≡ drop (4 * m) b) where
  pub closing_cut : withdrawal_rows s w (row_count 12 s w) ≡ withdrawal_rows b (drop (4 * m) b) m
  closing_cut =
      let ls : number_count s ≡ m = omega (arith, ap length hs, length-take (4 * m) b) in
      let least : min (number_count s) (length w / 12) ≡ m = omega (arith, ls, ap length hw, length-drop (4 * m) b) in
      let lw : row_count 12 s w ≡ m = least in
      let es = withdrawals_cut b (drop (4 * m) b) (4 * m) m (omega arith) in
      rw (lw, hs, hw, es)
