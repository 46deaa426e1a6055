use Rattle.std.proofs.Common.{◌≡◌, ◌-◌, min, [], ◌∷◌, ◌++◌, length, take, ◌∙◌, ap, append-nil, length-append, arith, w64, SFits, rules}
use Rattle.std.proofs.lemmas.Int.{to_z-of_z}
use Rattle.std.proofs.lemmas.List.{length-take-le}
use Rattle.std.specs.Iterator.Adapters.{zip_first, zip_second, rev_source}
use Rattle.std.specs.Slice.Iter.{iter_rest}
use Rattle.lines.specs.Sides.{side_letter}
use Rattle.lines.proofs.Puts.{grown_none, grown_before}
use Rattle.lines.proofs.Accounts.{texts_taken, told_more}
use Rattle.lines.proofs.tail.Tail.accounts.Goals as goal

pub loop-account-init : goal.loop-account-init
loop-account-init g c =
    let n = c.min-count.result in
    let none : n - 0 ≡ n = omega arith in
    let shorter : n ≡ min (length c.args.accounts.now) (length c.args.before.now) = search rules in
    let left : iter_rest (rev_source (zip_first c.into_iter-account-iterator.result)) ≡ take n c.args.accounts.now = cc in
    let noted : iter_rest (rev_source (zip_second c.into_iter-account-iterator.result)) ≡ take n c.args.before.now = cc in
    let some = length-take-le n c.args.accounts.now (omega arith) in
    let many = length-take-le n c.args.before.now (omega arith) in
    rw (left, noted) (
      (tt, tt),
      tt,
      (
        omega arith,
        ([], grown_none c.args.self.now, append-nil _ ∙ texts_taken g.A.Numbered.numbered g.A.Account.money (side_letter c.args.side) c.args.hour c.args.before.now c.args.accounts.now n shorter),
        omega arith,
        omega arith,
      ),
    )

pub loop-account-preserved : goal.loop-account-preserved
loop-account-preserved g c =
    let inv = c.loop-account.invariant.2 in
    let left : iter_rest (rev_source (zip_first c.loop-account.account-iterator)) ≡ iter_rest (rev_source (zip_first c.next.new.self)) ++ (c.in-Some.account.now ∷ []) = c.in-Some.ensures.steps.0 in
    let noted : iter_rest (rev_source (zip_second c.loop-account.account-iterator)) ≡ iter_rest (rev_source (zip_second c.next.new.self)) ++ (c.in-Some.cents.now ∷ []) = c.in-Some.ensures.steps.1 in
    let fewer = ap length left ∙ length-append (iter_rest (rev_source (zip_first c.next.new.self))) (c.in-Some.account.now ∷ []) in
    let less = ap length noted ∙ length-append (iter_rest (rev_source (zip_second c.next.new.self))) (c.in-Some.cents.now ∷ []) in
    let long : length (iter_rest (rev_source (zip_first c.next.new.self))) ≡ length (iter_rest (rev_source (zip_second c.next.new.self))) = omega (arith, inv.0) in
    let old : SFits w64 c.in-Some.cents.now = search rules in
    let new : SFits w64 c.cents.result = search rules in
    let grown = simp to_z-of_z at c.amount.ensures.grown in (
      (tt, tt),
      tt,
      (
        long,
        (
          _,
          grown_before _ _ _ _ _ inv.1.1 grown,
          told_more g.A.Numbered.numbered g.A.Account.money (side_letter c.args.side) c.args.hour _ _ _ _ _ _ _ _ left noted long _ c.number.ensures _ c.cents.ensures inv.1.2,
        ),
        omega (arith, inv.2, c.amount.ensures.short),
        omega (arith, inv.3, c.amount.ensures.short),
      ),
    )
