-- The same said with "for some"; that the test of Shown.antt means this is proved. Assumes nothing.
use Rattle.std.specs.Prelude.{ℕ, ◌≤◌, ◌<◌, ◌≡◌, List}
use Rattle.table.specs.Table.{field_of}
use Rattle.table.specs.declared.Section.{Section}
use Rattle.table.specs.declared.Range.{Range}

-- for some row n of a range, its word j is x
abbrev pub SomeWord : List ℕ → Section → Range → ℕ → ℕ → Type 0
SomeWord w s r j x = (n : ℕ) × (r.from ≤ n) × (n < r.to) × (field_of w s n j ≡ x)
