-- The search, step by step, as the code makes it. Assumes nothing.
use Prim.Native.Nat.{ℕ, ◌+◌, ◌-◌, ◌*◌, ◌≤◌, ◌<◌, min}
use native.Mathlib.Omega.{arith}
use native.Mathlib.Decide.{dec_lt}
use native.Mathlib.Nat.{mul-le-mul_left, one-mul, mul-suc}
use native.Mathlib.Numerals.{add-one}
use mathlib.Core.Path.{◌≡◌, refl, sym, ap, ◌∙◌}
use mathlib.Core.List.{List}
use mathlib.Core.Bool.{Bool, true, false, not, true≢false}
use lib.Dec.{ltb}
use lib.ListN.{length}
use borrow.Author.Tests.{ltb-true, ltb-false, lt-ltb, le-ltb, ne_eqb}
use Rattle.laws.specs.Lists.{least, pick}
use Rattle.laws.proofs.Tests.{or_right}
use Rattle.table.specs.Table.{word, count_of, offset_of, range_of}
use Rattle.table.specs.declared.Section.{Section}
use Rattle.table.specs.declared.Range.{Range}
use Rattle.model.specs.Sections.{entries}
use Rattle.model.specs.Decode.{rows_in}
use Rattle.std.specs.declared.option.Option.{Option}
use Rattle.std.specs.declared.option.Option.TheVariants.{Some, None}
use Rattle.sections.specs.declared.Fault.{Fault}
use Rattle.sections.specs.Found.{earlier_of}
use Rattle.sections.specs.Placed.{misplaced}
use Rattle.sections.proofs.Steps.{earlier_none}
use Rattle.search.specs.declared.Block.{Block}
use Rattle.search.specs.declared.Block.TheVariants.{Header, All, Listed}
use Rattle.search.specs.declared.Rows.{Rows}
use Rattle.row_tests.specs.declared.Test.{Test}
use Rattle.search.specs.declared.Line.{Line}
use Rattle.search.specs.Rows.{no_rows, range_rows, rows_of, row_at}
use Rattle.search.specs.Found.{settled, in_words, searched, first_row, found_at, found_in}
use Rattle.row_tests.specs.Wrong.{wrong}

-- ---- the rows of a line
module _ (w : List ℕ) (s : Section) {m : Bool} (t : m ≡ misplaced 0 w s) where
  pub section_none : m ≡ true → no_rows ≡ searched w (All s)
  unfolding searched in_words
  section_none y = rw (← t, y) refl

  pub section_all : {at n : ℕ} → m ≡ false → at ≡ offset_of w s → n ≡ count_of w s → record { at = at; size = s.size; count = n } ≡ searched w (All s)
  unfolding searched in_words rows_of
  section_all y f g = rw (← t, y, f, g) refl

  -- a section that is not misplaced lies in the words
  pub section_lies : m ≡ false → offset_of w s + s.size * count_of w s ≤ length w
  unfolding misplaced
  section_lies y = ltb-false (length w) (offset_of w s + s.size * count_of w s) (or_right (ltb (offset_of w s) 0) _ (sym t ∙ y))

module _ (w : List ℕ) (p : ℕ) {m : Bool} (t : m ≡ misplaced 0 w entries) where
  pub listed_out : m ≡ true → no_rows ≡ searched w (Listed p)
  unfolding searched in_words
  listed_out y = rw (← t, y) refl

  module _ (y : m ≡ false) {r : Range} (e : r ≡ rows_in w entries (word w p) (word w (p + 1))) where
    listed_is : searched w (Listed p) ≡ range_rows (offset_of w entries) r
    unfolding searched in_words rows_of
    listed_is = rw (← t, y, e) refl

    pub listed_fits : r.from < r.to → offset_of w entries + r.from ≤ length w
    unfolding rows_in range_of
    listed_fits l =
        let k = section_lies w entries t y in
        let h : r.to ≤ count_of w entries = rw e (omega arith) in
        omega arith

    pub listed_some : {at : ℕ} → at ≡ offset_of w entries → r.from < r.to → record { at = at + r.from; size = 1; count = r.to - r.from } ≡ searched w (Listed p)
    listed_some f l = rw (listed_is, lt-ltb r.from r.to l, f) refl

    pub listed_none : r.to ≤ r.from → no_rows ≡ searched w (Listed p)
    listed_none l = rw (listed_is, le-ltb r.from r.to l) refl

module _ (w : List ℕ) (x : Block) where
  pub rows_header : x ≡ Header → record { at = 0; size = 0; count = 1 } ≡ searched w x
  unfolding searched in_words rows_of
  rows_header e = rw e refl

  pub rows_as : (y : Block) {r : Rows} → x ≡ y → r ≡ searched w y → r ≡ searched w x
  rows_as y e t = t ∙ ap (searched w) (sym e)

-- every row that is searched lies in the words
range_fits : (w : List ℕ) (r : Range) → r.to ≤ count_of w entries → offset_of w entries + count_of w entries ≤ length w → row_at (range_rows (offset_of w entries) r) (range_rows (offset_of w entries) r).count ≤ length w
range_fits w r k h = elim (dec_lt r.from r.to) [
  | yes l ↦ rw (lt-ltb r.from r.to l, one-mul) (omega arith)
  | no m ↦ rw (le-ltb r.from r.to (omega arith)) (omega arith)
]

searched_fit : (w : List ℕ) (x : Block) → row_at (searched w x) (searched w x).count ≤ length w
unfolding searched in_words rows_of rows_in range_of
searched_fit w Header = omega arith
searched_fit w (All s) = go (misplaced 0 w s) refl where
  go : (m : Bool) → m ≡ misplaced 0 w s → row_at (pick (not m) (rows_of w (All s)) no_rows) (pick (not m) (rows_of w (All s)) no_rows).count ≤ length w
  go true e = omega arith
  go false e = section_lies w s e refl
searched_fit w (Listed p) = go (misplaced 0 w entries) refl where
  go : (m : Bool) → m ≡ misplaced 0 w entries → row_at (pick (not m) (rows_of w (Listed p)) no_rows) (pick (not m) (rows_of w (Listed p)) no_rows).count ≤ length w
  go true e = omega arith
  go false e = let k = section_lies w entries e refl in range_fits w (record { from = word w p; to = min (word w p + word w (p + 1)) (count_of w entries) }) (omega arith) (omega arith)

-- the next row begins after this one
row_next : (at size i : ℕ) {q : ℕ} → q ≡ at + size * i → q + size ≡ at + size * (i + 1)
row_next at size i e = rw (add-one, mul-suc) (omega arith)

-- a row below the count ends no later than the last
pub row_fits : (at size i count len : ℕ) → i < count → at + size * count ≤ len → at + size * i + size ≤ len
row_fits at size i count len l h = omega (arith, row_next at size i refl, mul-le-mul_left {m = i + 1} {n = count} size (omega arith))

pub fits_as : (w : List ℕ) (x : Block) {r : Rows} → r ≡ searched w x → row_at r r.count ≤ length w
fits_as w x e = rw e (searched_fit w x)

-- the first wrong row, by the line's test
pub row_by_test : (w b : List ℕ) (l : Line) (r : Rows) {i : ℕ} (t : Test) → l.test ≡ t → i ≡ least (λ k. wrong t w b (row_at r k) l.word) 0 r.count → i ≡ first_row w b l r
unfolding first_row
row_by_test w b l r t e h = h ∙ rw (← e) refl

-- a line whose number can't win any more
module _ (w b : List ℕ) (l : Line) where
  late : (f g : Fault) (t : Bool) → f.number < g.number → Some f ≡ earlier_of (Some f) (pick t (Some g) None)
  late f g true h = rw (le-ltb g.number f.number (omega arith), ne_eqb g.number f.number (λ e. omega arith)) refl
  late f g false h = refl

  pub line_late : (f : Option Fault) → settled f l.number ≡ true → f ≡ earlier_of f (found_in w b l)
  unfolding found_in found_at
  line_late None h = absurd (true≢false (sym h))
  line_late (Some f) h =
      let r = searched w l.block in
      let i = first_row w b l r in
      late f (record { number = l.number; word = row_at r i + l.word }) (ltb i r.count) (ltb-true f.number l.number h)

-- ---- a line
module _ (w b : List ℕ) (l : Line) (f : Option Fault) {r : Rows} (e : r ≡ searched w l.block) {i : ℕ} (t : i ≡ first_row w b l r) where
  pub line_found : {g : Option Fault} → i < r.count → g ≡ earlier_of f (Some (record { number = l.number; word = row_at r i + l.word })) → g ≡ earlier_of f (found_in w b l)
  unfolding found_in found_at
  line_found h k = k ∙ rw (← e, ← t, lt-ltb i r.count h) refl

  pub line_clear : r.count ≤ i → f ≡ earlier_of f (found_in w b l)
  unfolding found_in found_at
  line_clear h = earlier_none f ∙ rw (← e, ← t, le-ltb i r.count h) refl
