-- Sizes that are allowed, and how long a record of them can be.
use Rattle.std.proofs.Common.{◌≡◌, ℕ, ◌≤◌, true, ◌&&◌, eqb, leb, arith}
use Rattle.std.proofs.lemmas.Bool.{and_parts, eqb-true, leb-true}
use Rattle.feed.specs.declared.kind.Kind.{Kind}
use Rattle.feed.specs.declared.kind.Kind.TheVariants.{Supplier, Customer, Open, Clear, Interval, Close, Void}
use Rattle.feed.specs.Kinds.{allowed, body_length_lem, no_lists, sheet_sizes, most_prices, most_schedules, most_withdrawals}

no_lists_few : (n m : ℕ) → no_lists n m ≡ true → (n ≤ 0) × (m ≤ 0)
no_lists_few n m h =
    let p = and_parts (eqb n 0) (eqb m 0) h in
    (omega (arith, eqb-true n 0 p.0), omega (arith, eqb-true m 0 p.1))

pub sheet_few : (n m : ℕ) → sheet_sizes n m ≡ true → (1 ≤ n) × (n ≤ most_prices) × (m ≤ most_schedules)
sheet_few n m h =
    let p = and_parts (leb 1 n) (leb n most_prices && leb m most_schedules) h in
    let q = and_parts (leb n most_prices) (leb m most_schedules) p.1 in
    (leb-true 1 n p.0, leb-true n most_prices q.0, leb-true m most_schedules q.1)

pub closing_few : (n m : ℕ) → (eqb n 0 && leb m most_withdrawals) ≡ true → (n ≤ 0) × (m ≤ most_withdrawals)
closing_few n m h =
    let p = and_parts (eqb n 0) (leb m most_withdrawals) h in
    (omega (arith, eqb-true n 0 p.0), leb-true m most_withdrawals p.1)

-- of every kind
pub few : (k : Kind) (n m : ℕ) → allowed k n m ≡ true → (n ≤ most_prices) × (m ≤ most_withdrawals)
few Supplier n m h = let f = no_lists_few n m h in (omega arith, omega arith)
few Customer n m h = let f = no_lists_few n m h in (omega arith, omega arith)
few Open n m h = let f = no_lists_few n m h in (omega arith, omega arith)
few Clear n m h = let f = sheet_few n m h in (omega arith, omega arith)
few Interval n m h = let f = sheet_few n m h in (omega arith, omega arith)
few Close n m h = let f = closing_few n m h in (omega arith, omega arith)
few Void n m h = let f = no_lists_few n m h in (omega arith, omega arith)

pub longest : (k : Kind) (n m : ℕ) → allowed k n m ≡ true → body_length_lem k n m ≤ 4096
longest Supplier n m h = omega arith
longest Customer n m h = omega arith
longest Open n m h = omega arith
longest Clear n m h = let f = sheet_few n m h in omega arith
longest Interval n m h = let f = sheet_few n m h in omega arith
longest Close n m h = let f = closing_few n m h in omega arith
longest Void n m h = omega arith
