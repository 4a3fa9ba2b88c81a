-- What only a private contract cites: that two attributes have the same string numbers. Assumes nothing.
use Rattle.std.specs.Prelude.{ℕ, List, Bool, ◌&&◌, eqb}
use Rattle.table.specs.Table.{field_of}
use Rattle.model.specs.Sections.{attributes}

-- attributes a and b name the same strings, for OID and value
unfoldable pub same_numbers : List ℕ → ℕ → ℕ → Bool
same_numbers w a b = eqb (field_of w attributes a 0) (field_of w attributes b 0) && eqb (field_of w attributes a 1) (field_of w attributes b 1)
