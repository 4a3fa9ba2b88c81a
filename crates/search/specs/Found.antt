-- The first fault of a line. That a check made of lines names the first of all faults is proved in `sound`. Assumes nothing.
use Rattle.std.specs.Prelude.{Option, Some, None, ℕ, ◌+◌, List, Bool, true, false, not, ltb}
use Rattle.laws.specs.Lists.{least, pick}
use Rattle.model.specs.Sections.{entries}
use Rattle.sections.specs.declared.Fault.{Fault}
use Rattle.sections.specs.Placed.{misplaced}
use Rattle.search.specs.declared.Block.{Block}
use Rattle.search.specs.declared.Block.TheVariants.{Header, All, Listed}
use Rattle.search.specs.declared.Line.{Line}
use Rattle.search.specs.declared.Rows.{Rows}
use Rattle.search.specs.Rows.{no_rows, rows_of, row_at}
use Rattle.row_tests.specs.Wrong.{wrong}

-- a fault was found that goes before every fault of refusal n
abbrev pub settled : Option Fault → ℕ → Bool
settled None n = false
settled (Some f) n = ltb f.number n

-- the section of a line's rows lies in the words
unfoldable pub in_words : List ℕ → Block → Bool
in_words w Header = true
in_words w (All s) = not (misplaced 0 w s)
in_words w (Listed p) = not (misplaced 0 w entries)

-- the rows of a line that are searched: none where their section does not lie in the words
unfoldable pub searched : List ℕ → Block → Rows
searched w x = pick (in_words w x) (rows_of w x) no_rows

-- the first wrong row of a line, or their number
unfoldable pub first_row : List ℕ → List ℕ → Line → Rows → ℕ
first_row w b l r = least (λ i. wrong l.test w b (row_at r i) l.word) 0 r.count

-- where a line's first fault is, if its first wrong row is i
unfoldable pub found_at : Line → Rows → ℕ → Option Fault
found_at l r i = pick (ltb i r.count) (Some (record { number = l.number; word = row_at r i + l.word })) None

-- a line's first fault in the rows that are searched
unfoldable pub found_in : List ℕ → List ℕ → Line → Option Fault
found_in w b l = found_at l (searched w l.block) (first_row w b l (searched w l.block))
