-- One writing before another, and the lengths of what is written.
use Rattle.std.proofs.Common.{◌≡◌, ℕ, ◌+◌, ◌/◌, ◌^◌, ◌<◌, ◌≤◌, List, [], ◌∷◌, ◌++◌, length, take, drop, ℤ, pos, negsuc, ◌-ℤ◌, nat_abs, ◌≤ℤ◌, ◌<ℤ◌, Ok, decimal, sym, refl, ap, ◌∙◌, subst, append_assoc, append-nil, arith}
use Rattle.std.specs.Fmt.{signed_decimal}
use Rattle.std.proofs.lemmas.Int.{ints}
use Rattle.std.proofs.lemmas.List.{length-append, take-take, drop_all}
use Rattle.std.proofs.lemmas.Fmt.{decimal_step, length-decimal-le}
use Rattle.std.proofs.lemmas.Bool.Decides.{nat_tests}
use Rattle.lines.specs.Putting.{Put, Closes, write_answer}
use Rattle.lines.specs.Tails.{Grown}
use Rattle.lines.specs.declared.tail.Tail.{Tail}

-- a text before one that was put before
pub put_before : (a b xs ys zs : List ℕ) (at middle start : ℕ) → Put b xs ys at middle → Put a ys zs middle start → Put (a ++ b) xs zs at start
put_before a b xs ys zs at middle start p q = record {
  place = let l = length-append a b in let h = p.place in let k = q.place in omega arith;
  text = q.text ∙ ap (λ t. a ++ t) p.text ∙ sym (append_assoc a b (drop at xs));
  front = q.front ∙ sym (take-take start middle ys (let h = q.place in omega arith)) ∙ ap (take start) p.front
      ∙ take-take start middle xs (let h = q.place in omega arith);
}

pub length_step : (n : ℕ) → 10 ≤ n → n < 2 ^ 64 → length (decimal n) ≡ length (decimal (n / 10)) + 1
length_step n h f = ap length (decimal_step n h f) ∙ length-append (decimal (n / 10)) _

-- a negative number is a `-` and its size
pub signed_below : (z : ℤ) → z <ℤ pos 0 → signed_decimal z ≡ 45 ∷ decimal (nat_abs z)
signed_below (pos n) h = absurd (omega (arith, ints))
signed_below (negsuc n) h = refl

pub signed_from : (z : ℤ) → pos 0 ≤ℤ z → signed_decimal z ≡ decimal (nat_abs z)
signed_from (pos n) h = refl
signed_from (negsuc n) h = absurd (omega (arith, ints))

-- of a difference, by its size
pub difference_below : (a b : ℤ) (d : ℕ) → d ≡ nat_abs (a -ℤ b) → a <ℤ b → signed_decimal (a -ℤ b) ≡ 45 ∷ decimal d
difference_below a b d e h = signed_below (a -ℤ b) (omega (arith, ints)) ∙ ap (λ n. 45 ∷ decimal n) (sym e)

pub difference_from : (a b : ℤ) (d : ℕ) → d ≡ nat_abs (a -ℤ b) → b ≤ℤ a → signed_decimal (a -ℤ b) ≡ decimal d
difference_from a b d e h = signed_from (a -ℤ b) (omega (arith, ints)) ∙ ap decimal (sym e)

-- ---- how long numbers are
pub decimal_in_64 : (n : ℕ) → n < 2 ^ 64 → length (decimal n) ≤ 20
decimal_in_64 n h = length-decimal-le 20 n (omega arith) (omega arith) h

pub decimal_in_32 : (n : ℕ) → n < 2 ^ 32 → length (decimal n) ≤ 10
decimal_in_32 n h = length-decimal-le 10 n (omega arith) (omega arith) (omega arith)

pub decimal_in_16 : (n : ℕ) → n < 2 ^ 16 → length (decimal n) ≤ 5
decimal_in_16 n h = length-decimal-le 5 n (omega arith) (omega arith) (omega arith)

pub put_none : (xs : List ℕ) (at : ℕ) → Put [] xs xs at at
put_none xs at = record { place = omega arith; text = refl; front = refl }

-- what is put before a buffer's end closes it
pub put_closes : (bs xs ys : List ℕ) (at start : ℕ) → length xs ≡ at → Put bs xs ys at start → Closes bs xs ys start
put_closes bs xs ys at start end p = record {
  place = let h = p.place in omega arith;
  text = p.text ∙ ap (λ t. bs ++ t) (drop_all at xs (omega arith)) ∙ append-nil bs;
  front = p.front;
}

pub less_none : (z : ℤ) → z -ℤ pos 0 ≡ z
less_none z = omega (arith, ints)

-- ---- a text that grows
pub grown_none : (s : Tail) → Grown [] s s
grown_none s = record { same = refl; put = put_none s.out.now s.start }

pub grown_before : (a b : List ℕ) (s t u : Tail) → Grown b s t → Grown a t u → Grown (a ++ b) s u
grown_before a b s t u p q = record {
  same = q.same ∙ p.same;
  put = put_before a b s.out.now t.out.now u.out.now s.start t.start u.start p.put q.put;
}

pub grown_same : (a b : List ℕ) (s t : Tail) → a ≡ b → Grown a s t → Grown b s t
grown_same a b s t e p = subst (λ x. Grown x s t) e p

pub grown_to : (a : List ℕ) (s t u : Tail) → t ≡ u → Grown a s t → Grown a s u
grown_to a s t u e p = subst (λ x. Grown a s x) e p

-- what has grown from a buffer's end closes it
pub grown_closes : (bs xs : List ℕ) (s t : Tail) (start : ℕ) → s.out.now ≡ xs → s.start ≡ length xs → start ≡ t.start → Grown bs s t → Closes bs xs t.out.now start
grown_closes bs xs s t start bytes end begins g =
    let put : Put bs xs t.out.now (length xs) t.start = subst (λ n. Put bs xs t.out.now n t.start) end (subst (λ l. Put bs l t.out.now s.start t.start) bytes g.put) in
    subst (λ n. Closes bs xs t.out.now n) (sym begins) (put_closes bs xs t.out.now (length xs) t.start refl put)

-- ---- the answer of a write
pub write_fits : (n needed room : ℕ) → n ≡ needed → needed ≤ room → Ok n ≡ write_answer needed room
write_fits n needed room e h = grind (arith, nat_tests)
