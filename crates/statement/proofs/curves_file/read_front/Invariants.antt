use Rattle.std.proofs.Common.{◌≤◌, length}
use Rattle.statement.proofs.curves_file.read_front.Given as goal

abbrev pub invariant-loop : goal.invariant-loop
invariant-loop l = l.length ≤ length l.bytes
