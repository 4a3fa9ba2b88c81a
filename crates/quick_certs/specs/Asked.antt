-- What is asked of one row: every line of its section at once. Assumes nothing.
use Rattle.std.specs.Prelude.{ℕ, ◌+◌, ◌*◌, ◌≤◌, List, [], ◌∷◌, Bool, not, ◌&&◌, eqb, length}
use Rattle.laws.specs.Lists.{pick, numbers, all}
use Rattle.table.specs.Table.{count_of, offset_of}
use Rattle.table.specs.declared.Section.{Section}
use Rattle.model.specs.Sections.{chain_header, certs}
use Rattle.sections.specs.Placed.{misplaced}
use Rattle.row_tests.specs.Wrong.{wrong}
use Rattle.search.specs.declared.Line.{Line}
use Rattle.search.specs.declared.Block.{Block}
use Rattle.search.specs.declared.Block.TheVariants.{Header, All, Listed}
use Rattle.search.specs.Rows.{rows_of, row_at}
use Rattle.lines.specs.Tables.{chain_lines}

-- the row at q is right, as far as some lines ask
unfoldable pub row_fine : List ℕ → List ℕ → List Line → ℕ → Bool
row_fine w b lines q = all (λ l. not (wrong l.test w b q l.word)) lines

-- each row of a block is
unfoldable pub rows_fine : List ℕ → List ℕ → List Line → Block → Bool
rows_fine w b lines x = all (λ i. row_fine w b lines (row_at (rows_of w x) i)) (numbers 0 (rows_of w x).count)

-- the word of the header that counts the rows of a line, or at which their range stands; 0 for the header itself
abbrev pub count_word : Block → ℕ
count_word Header = 0
count_word (All s) = s.count
count_word (Listed p) = p

-- of some lines those with this word
abbrev pub lines_of : ℕ → List Line → List Line
lines_of k [] = []
lines_of k (l ∷ ls) = pick (eqb (count_word l.block) k) (l ∷ lines_of k ls) (lines_of k ls)

-- C is in its place, and each certificate's row is right
unfoldable pub certs_fine : List ℕ → List ℕ → Bool
certs_fine w b = not (misplaced chain_header w certs) && rows_fine w b (lines_of certs.count chain_lines) (All certs)

-- the rows of a section end inside the words
abbrev pub Lies : List ℕ → Section → Type 0
Lies w s = offset_of w s + s.size * count_of w s ≤ length w
