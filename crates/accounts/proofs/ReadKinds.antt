-- What is known of a kind that was read from a number.
use Rattle.std.proofs.Common.{◌≡◌, ◌==◌, ◌||◌, ℕ, true, false, Ok, Err, Result, arith}
use Rattle.std.specs.Result.{is_err, result_unwrap_or}
use Rattle.std.proofs.lemmas.Bool.Decides.{nat_tests}
use Rattle.accounts.specs.declared.supplier.Kind.{Kind}
use Rattle.accounts.specs.declared.supplier.Kind.TheVariants.{Synchronized, NotSynchronized}
use Rattle.accounts.specs.declared.supplier.UnknownKind.{UnknownKind}
use Rattle.accounts.specs.Enrolment.{kind_of_lem}
use Rattle.accounts.specs.Kinds.{IsKindNumbered}

-- where none was read the number is neither
pub none_read : (n : ℕ) (r : Result Kind (UnknownKind ℕ)) → IsKindNumbered n r → is_err r ≡ true → (n == 1 || n == 2) ≡ false
none_read n (Ok k) h e = cc
none_read n (Err x) h e =
    let a : 1 ≡ n → ⊥ = h.1 Synchronized in
    let b : 2 ≡ n → ⊥ = h.1 NotSynchronized in
    grind (arith, nat_tests)

-- all else is read as not synchronized
pub kind_read : (n : ℕ) (r : Result Kind (UnknownKind ℕ)) → IsKindNumbered n r → result_unwrap_or r NotSynchronized ≡ kind_of_lem n
kind_read n (Ok Synchronized) h = rw (← h)
kind_read n (Ok NotSynchronized) h = rw (← h)
kind_read n (Err x) h =
    let a : 1 ≡ n → ⊥ = h.1 Synchronized in
    let f : (n == 1) ≡ false = grind (arith, nat_tests) in
    rw f
