-- The same said once more, with "every": no section is misplaced, and no row of a line is wrong. Assumes nothing.
use Rattle.std.specs.Prelude.{ℕ, ◌<◌, ◌≡◌, false}
use mathlib.Core.List.{List, Memᴰ}
use Rattle.table.specs.declared.Section.{Section}
use Rattle.sections.specs.Placed.{misplaced}
use Rattle.row_tests.specs.Wrong.{wrong}
use Rattle.search.specs.declared.Line.{Line}
use Rattle.search.specs.Rows.{rows_of, row_at}

pub record AllFine (header : ℕ) (sections : List Section) (lines : List Line) (w b : List ℕ) : Type 0 where
  -- every section is in its place
  pub placed : (s : Section) → Memᴰ s sections → misplaced header w s ≡ false
  -- in every line every row is right
  pub right : (l : Line) → Memᴰ l lines → (i : ℕ) → i < (rows_of w l.block).count → wrong l.test w b (row_at (rows_of w l.block) i) l.word ≡ false
