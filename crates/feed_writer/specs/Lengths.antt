-- How long the pieces of a record are.
use Rattle.std.proofs.Common.{◌≡◌, ℕ, length, refl}
use Rattle.accounts.specs.declared.schedule.ScheduleRow.{ScheduleRow}
use Rattle.accounts.specs.declared.withdrawal.WithdrawalRow.{WithdrawalRow}
use Rattle.feed_writer.specs.Bytes.{bytes16, bytes32, schedule_bytes, withdrawal_bytes, header}

pub length_bytes16 : (n : ℕ) → length (bytes16 n) ≡ 2
unfolding bytes16
length_bytes16 n = refl

pub length_bytes32 : (n : ℕ) → length (bytes32 n) ≡ 4
unfolding bytes32
length_bytes32 n = refl

pub length_schedule_bytes : (r : ScheduleRow) → length (schedule_bytes r) ≡ 20
unfolding schedule_bytes bytes32
length_schedule_bytes r = refl

pub length_withdrawal_bytes : (r : WithdrawalRow) → length (withdrawal_bytes r) ≡ 12
unfolding withdrawal_bytes bytes32
length_withdrawal_bytes r = refl

pub length_header : (code n m : ℕ) → length (header code n m) ≡ 5
unfolding header bytes16
length_header code n m = refl
