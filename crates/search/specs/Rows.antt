-- Where the rows of a line stand (document 01, "What the judge says"). Assumes nothing.
use Rattle.std.specs.Prelude.{ℕ, ◌+◌, ◌-◌, ◌*◌, List, ltb}
use Rattle.laws.specs.Lists.{pick}
use Rattle.table.specs.Table.{word, count_of, offset_of}
use Rattle.table.specs.declared.Range.{Range}
use Rattle.model.specs.Sections.{entries}
use Rattle.model.specs.Decode.{rows_in}
use Rattle.search.specs.declared.Rows.{Rows}
use Rattle.search.specs.declared.Block.{Block}
use Rattle.search.specs.declared.Block.TheVariants.{Header, All, Listed}

-- no rows
abbrev pub no_rows : Rows
no_rows = record { at = 0; size = 0; count = 0 }

-- rows of one word each: those of a range, of a section that begins at the word `at`
abbrev pub range_rows : ℕ → Range → Rows
range_rows at r = pick (ltb r.from r.to) (record { at = at + r.from; size = 1; count = r.to - r.from }) no_rows

-- the rows of a line: the header, every row of a section, or the rows of L in the range at word p of the header
unfoldable pub rows_of : List ℕ → Block → Rows
rows_of w Header = record { at = 0; size = 0; count = 1 }
rows_of w (All s) = record { at = offset_of w s; size = s.size; count = count_of w s }
rows_of w (Listed p) = range_rows (offset_of w entries) (rows_in w entries (word w p) (word w (p + 1)))

-- where row i begins
abbrev pub row_at : Rows → ℕ → ℕ
row_at r i = r.at + r.size * i
