-- What the readers of strings trust. Assumes nothing.
use Rattle.std.specs.Prelude.{ℕ, ◌≡◌, List, true}
use Rattle.table.specs.Table.{strings}
use Rattle.row_tests.specs.declared.Test.TheVariants.{StringOut}
use Rattle.search.specs.declared.Block.TheVariants.{All}
use Rattle.search.specs.declared.Line.{Line}
use Rattle.lines.specs.Tables.{line}
use Rattle.quick_certs.specs.Asked.{Lies}
use Rattle.quick.specs.Fine.{line_fine}

-- the line that asks whether a string lies in the bytes
abbrev pub string_line : Line
string_line = line 5 (All strings) 0 StringOut

-- the rows of S end inside the words, and each string lies in the bytes
abbrev pub StringsLie : List ℕ → List ℕ → Type 0
StringsLie w b = Lies w strings × (line_fine w b string_line ≡ true)
