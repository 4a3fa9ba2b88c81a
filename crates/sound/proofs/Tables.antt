-- The faults that the code's tables know, by layout. That they are those of document 01 is proved in Stated. Assumes nothing.
use Prim.Native.Nat.{ℕ, ◌+◌, ◌<◌, ◌≤◌}
use mathlib.Core.Path.{◌≡◌}
use mathlib.Core.List.{List, Memᴰ}
use mathlib.Core.Bool.{Bool, true, not, ◌||◌}
use lib.Dec.{eqb, ltb}
use Rattle.table.specs.Table.{word, count_of}
use Rattle.table.specs.declared.Section.{Section}
use Rattle.model.specs.Sections.{chain_header, policy_header, certs}
use Rattle.sections.specs.Placed.{misplaced, chain_sections, policy_sections}
use Rattle.row_tests.specs.Wrong.{wrong}
use Rattle.row_tests.specs.declared.Test.{Test}
use Rattle.search.specs.declared.Block.{Block}
use Rattle.search.specs.declared.Line.{Line}
use Rattle.search.specs.Rows.{rows_of, row_at}
use Rattle.lines.specs.Tables.{chain_lines, policy_lines}
use Rattle.sound.specs.Limits.{most_certs, edition, too_large}
use Rattle.sound.proofs.Fitting.{Within}

-- p is word j of some row, and wrong in the way that the test looks for
unfoldable pub InRows : List ℕ → List ℕ → Block → ℕ → Test → ℕ → Type 0
InRows w b x j t p = (i : ℕ) × (i < (rows_of w x).count) × (p ≡ row_at (rows_of w x) i + j) × (wrong t w b (row_at (rows_of w x) i) j ≡ true)

-- the line's fault is at the word p
abbrev pub InLine : List ℕ → List ℕ → Line → ℕ → Type 0
InLine w b l p = InRows w b l.block l.word l.test p

-- what a check of a bundle goes by
pub record Layout : Type 0 where
  pub header : ℕ
  pub large : Bool
  pub sections : List Section
  pub lines : List Line

abbrev pub chain_layout : List ℕ → List ℕ → Layout
chain_layout w b = record {
  header = chain_header;
  large = too_large chain_header w b || ltb most_certs (count_of w certs);
  sections = chain_sections;
  lines = chain_lines;
}

abbrev pub policy_layout : List ℕ → List ℕ → Layout
policy_layout w b = record { header = policy_header; large = too_large policy_header w b; sections = policy_sections; lines = policy_lines }

-- refusal n is due at the word p
pub data TableFault (y : Layout) (w b : List ℕ) (n p : ℕ) : Type 0 where
  -- 2, at word 0
  size : n ≡ 2 → p ≡ 0 → y.large ≡ true → TableFault y w b n p
  -- 3, at word 0
  other : n ≡ 3 → p ≡ 0 → not (eqb (word w 0) edition) ≡ true → TableFault y w b n p
  -- 4, at the word of the section's count
  section : (s : Section) → Memᴰ s y.sections → n ≡ 4 → p ≡ s.count → misplaced y.header w s ≡ true → TableFault y w b n p
  -- 5 to 8, line by line
  row : (l : Line) → Memᴰ l y.lines → n ≡ l.number → InLine w b l p → TableFault y w b n p

-- a layout knows the faults F: its lines are numbered from 5 on, lie in the words where the sections do, and its faults are these
pub record Knows (F : ℕ → ℕ → Type 0) (y : Layout) (w b : List ℕ) : Type 0 where
  pub from5 : (l : Line) → Memᴰ l y.lines → 5 ≤ l.number
  pub within : Within y.header y.sections y.lines w
  pub stated : (n p : ℕ) → TableFault y w b n p → F n p
  pub tabled : (n p : ℕ) → F n p → TableFault y w b n p
