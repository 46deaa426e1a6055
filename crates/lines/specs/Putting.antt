-- Bytes that are written into a buffer right before what is written already.
use Rattle.std.specs.Prelude.{◌≡◌, ℕ, ◌+◌, cond, List, ◌++◌, length, take, drop, Ok, Err, Result, nat_le}
use Rattle.faults.specs.declared.fault.Fault.{Fault}
use Rattle.faults.specs.declared.fault.Fault.TheVariants.{BufferTooShort}

-- from `at` on stood what was written; now bs stands before it, from `start` on, and nothing else has changed
pub record Put (bs before after : List ℕ) (at start : ℕ) : Type 0 where
  pub place : start + length bs ≡ at
  pub text : drop start after ≡ bs ++ drop at before
  pub front : take start after ≡ take start before

-- bs stands at the end of a buffer, from `start` on, and what is before it has not changed
pub record Closes (bs before after : List ℕ) (start : ℕ) : Type 0 where
  pub place : start + length bs ≡ length before
  pub text : drop start after ≡ bs
  pub front : take start after ≡ take start before

-- what is answered of so many bytes that are to be written into so much room
abbrev pub write_answer : (needed room : ℕ) → Result ℕ Fault
write_answer needed room = cond (nat_le needed room) (Ok needed) (Err (BufferTooShort needed))
