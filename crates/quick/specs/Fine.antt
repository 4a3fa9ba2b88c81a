-- Nothing is wrong with a bundle: each section in its place, and each row of each line right. Assumes nothing.
use Rattle.std.specs.Prelude.{ℕ, List, Bool, not, ◌&&◌}
use Rattle.laws.specs.Lists.{numbers, all}
use Rattle.table.specs.declared.Section.{Section}
use Rattle.model.specs.Sections.{chain_header}
use Rattle.sections.specs.Placed.{misplaced, chain_sections}
use Rattle.row_tests.specs.Wrong.{wrong}
use Rattle.search.specs.declared.Line.{Line}
use Rattle.search.specs.Rows.{rows_of, row_at}
use Rattle.lines.specs.Tables.{chain_lines}

-- no section is misplaced
unfoldable pub all_placed : ℕ → List Section → List ℕ → Bool
all_placed header sections w = all (λ s. not (misplaced header w s)) sections

-- the line's word is right in each of its rows
unfoldable pub line_fine : List ℕ → List ℕ → Line → Bool
line_fine w b l = all (λ i. not (wrong l.test w b (row_at (rows_of w l.block) i) l.word)) (numbers 0 (rows_of w l.block).count)

-- nothing is wrong with the sections and the lines of a bundle
unfoldable pub all_fine : ℕ → List Section → List Line → List ℕ → List ℕ → Bool
all_fine header sections lines w b = all_placed header sections w && all (line_fine w b) lines

-- the chain's bundle
abbrev pub chain_fine : List ℕ → List ℕ → Bool
chain_fine = all_fine chain_header chain_sections chain_lines
