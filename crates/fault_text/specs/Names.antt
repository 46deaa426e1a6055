-- The names of the layers that refuse.
use Rattle.std.specs.Prelude.{ℕ, List, codes}
use Rattle.faults.specs.declared.fault.Layer.{Layer}
use Rattle.faults.specs.declared.fault.Layer.TheVariants.{Feed, Book, Sheet, Hour, Table}

-- the characters of a layer's name
abbrev pub name_of : Layer → List ℕ
name_of Feed = codes "feed"
name_of Book = codes "book"
name_of Sheet = codes "sheet"
name_of Hour = codes "hour"
name_of Table = codes "table"
