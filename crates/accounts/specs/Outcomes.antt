-- What a call that may decline gives.
use Rattle.std.specs.Prelude.{Bool, cond, Some, None, Option}

-- x, if the test holds
abbrev pub provided : {X : Type 0} → Bool → X → Option X
provided b x = cond b (Some x) None
