-- The table view: which rows of which section of the lent words it shows, and what is read of them. Assumes nothing.
use Rattle.std.specs.Prelude.{ℕ, ◌+◌, List, Bool, eqb, ltb}
use Rattle.std.specs.Borrow.{Bor}
use Rattle.laws.specs.Lists.{pick, any}
use Rattle.table.specs.Table.{field_of, over}
use Rattle.table.specs.declared.Section.{Section}
use Rattle.table.specs.declared.Range.{Range}
use Rattle.view.specs.declared.Rows.{Rows}
use Rattle.view.specs.declared.View.{View}

-- the rows of a range of a section
abbrev pub rows_of : Section → Range → Rows
rows_of s r = record { section = s; range = r }

-- the view of some rows of the lent words
abbrev pub view_of : Bor (List ℕ) → Rows → View
view_of w r = record { words = w; rows = r }

-- word j of each row that is still to be read, in order: what a view shows
abbrev pub column_of : List ℕ → Rows → ℕ → List ℕ
column_of w r j = over (λ n. field_of w r.section n j) r.range

-- word j of the row at which a view stands: the first that is still to be read
unfoldable pub head_of : List ℕ → Rows → ℕ → ℕ
head_of w r j = field_of w r.section r.range.from j

-- what is still to be read after that row; where no row is left, none is
unfoldable pub rest_of : Rows → Rows
rest_of r = pick (ltb r.range.from r.range.to) (rows_of r.section (record { from = r.range.from + 1; to = r.range.to })) r

-- some row of a range has x as its word j
unfoldable pub some_word : List ℕ → Section → Range → ℕ → ℕ → Bool
some_word w s r j x = any (λ y. eqb y x) (column_of w (rows_of s r) j)
