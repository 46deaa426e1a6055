-- What stands at the front of some bytes of a feed: a header of five bytes (the kind and two sizes), then the body.
use Rattle.std.specs.Prelude.{ℕ, ◌+◌, cond, List, length, take, drop, Some, None, Option, ◌==◌, nat_le, nat_lt, slice_index}
use Rattle.feed.specs.declared.kind.Kind.{Kind}
use Rattle.feed.specs.Numbers.{le16}
use Rattle.feed.specs.Kinds.{kind_of_lem, allowed, body_length_lem}
use Rattle.feed.specs.Entries.{Entry, body_says}

pub data Front : Type 0 where
  -- no byte is left
  ended : Front
  -- the bytes end inside a record
  truncated : Front
  unknown_kind : Front
  size_not_allowed : Front
  -- a record, and how many bytes it has
  whole : Entry → ℕ → Front

-- of what follows a header
abbrev pub body_front : Kind → ℕ → ℕ → List ℕ → Front
body_front k n m rest =
    cond (allowed k n m)
    (cond (nat_le (body_length_lem k n m) (length rest))
    (whole (body_says k n m (take (body_length_lem k n m) rest)) (5 + body_length_lem k n m))
    truncated)
    size_not_allowed

abbrev pub kind_front : Option Kind → ℕ → ℕ → List ℕ → Front
kind_front None n m rest = unknown_kind
kind_front (Some k) n m rest = body_front k n m rest

abbrev pub front : List ℕ → Front
front bs =
    cond (length bs == 0) ended
    (cond (nat_lt (length bs) 5) truncated
    (kind_front (kind_of_lem (slice_index bs 0)) (le16 bs 1) (le16 bs 3) (drop 5 bs)))

-- how many bytes a reader goes on
abbrev pub size : Front → ℕ
size ended = 0
size truncated = 0
size unknown_kind = 0
size size_not_allowed = 0
size (whole e n) = n
