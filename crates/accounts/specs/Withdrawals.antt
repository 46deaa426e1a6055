-- Net withdrawals.
use Rattle.std.specs.Prelude.{ℕ, ◌+◌, ◌-◌, Bool, nat_le}
use Rattle.accounts.specs.declared.withdrawal.WithdrawalRow.{WithdrawalRow}

-- station power and excluded exports do not exceed the gross withdrawal
abbrev pub has_net_lem : WithdrawalRow → Bool
has_net_lem w = nat_le (w.station + w.exports) w.gross

abbrev pub net : WithdrawalRow → ℕ
net w = w.gross - (w.station + w.exports)
