-- What a window shows of its buffer.
use Rattle.std.specs.Prelude.{ℕ, ◌-◌, List, take, drop}
use Rattle.statement.specs.declared.window.Window.{Window}

-- the bytes from its start to its end
abbrev pub at_hand_lem : Window → List ℕ
at_hand_lem w = take (w.end - w.start) (drop w.start w.buffer.now)
