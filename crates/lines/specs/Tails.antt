-- A text that grows at its front.
use Rattle.std.specs.Prelude.{◌≡◌, ℕ, List}
use Rattle.lines.specs.declared.tail.Tail.{Tail}
use Rattle.lines.specs.Putting.{Put}

-- bs stands right before what the text was, in the same buffer
pub record Grown (bs : List ℕ) (before after : Tail) : Type 0 where
  pub same : after.out.ghost_name ≡ before.out.ghost_name
  pub put : Put bs before.out.now after.out.now before.start after.start
