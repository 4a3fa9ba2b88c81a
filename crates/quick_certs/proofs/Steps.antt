-- The rows of a section, and the section in its place. Assumes nothing.
use Prim.Native.Nat.{ℕ, ◌+◌, ◌*◌}
use mathlib.Core.Path.{◌≡◌, refl, sym, ◌∙◌}
use mathlib.Core.List.{List}
use mathlib.Core.Bool.{Bool, true, false}
use lib.Dec.{ltb}
use lib.ListN.{length}
use borrow.Author.Tests.{ltb-false}
use Rattle.laws.specs.Lists.{numbers, all}
use Rattle.laws.proofs.Tests.{or_right}
use Rattle.table.specs.Table.{count_of, offset_of}
use Rattle.table.specs.declared.Section.{Section}
use Rattle.model.specs.Sections.{chain_header, certs}
use Rattle.sections.specs.Placed.{misplaced}
use Rattle.search.specs.declared.Block.TheVariants.{All}
use Rattle.search.specs.Rows.{rows_of}
use Rattle.lines.specs.Tables.{chain_lines}
use Rattle.quick_certs.specs.Asked.{row_fine, rows_fine, lines_of, certs_fine, Lies}

-- a section in its place lies in the words
pub placed_lies : (header : ℕ) (w : List ℕ) (s : Section) {m : Bool} → m ≡ misplaced header w s → m ≡ false → Lies w s
unfolding misplaced
placed_lies header w s t y = ltb-false (length w) (offset_of w s + s.size * count_of w s) (or_right (ltb (offset_of w s) header) _ (sym t ∙ y))

-- the rows of a section, from where it begins, as many as it has
pub rows_as : (w b : List ℕ) (s : Section) (k : ℕ) {at n : ℕ} {r : Bool} → at ≡ offset_of w s → n ≡ count_of w s → r ≡ all (λ i. row_fine w b (lines_of k chain_lines) (at + s.size * i)) (numbers 0 n) → r ≡ rows_fine w b (lines_of k chain_lines) (All s)
unfolding rows_fine rows_of
rows_as w b s k e f t = t ∙ rw (e, f) refl

-- C
module _ (w b : List ℕ) {m : Bool} (t : m ≡ misplaced chain_header w certs) where
  pub certs_out : m ≡ true → false ≡ certs_fine w b
  unfolding certs_fine
  certs_out y = rw (← t, y) refl

  pub certs_in : {r : Bool} → m ≡ false → r ≡ rows_fine w b (lines_of certs.count chain_lines) (All certs) → r ≡ certs_fine w b
  unfolding certs_fine
  certs_in y h = h ∙ rw (← t, y) refl
