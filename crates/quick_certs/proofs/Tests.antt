-- The tests of a word, as they are asked here: what is right, where a line says what is wrong. Assumes nothing.
use Prim.Native.Nat.{ℕ, ◌+◌}
use native.Mathlib.Omega.{arith}
use native.Mathlib.Decide.{dec_lt}
use mathlib.Core.Path.{◌≡◌, refl, sym, ap, ◌∙◌}
use mathlib.Core.List.{List, [], ◌∷◌, ◌++◌}
use mathlib.Core.Bool.{Bool, true, false, not, ◌&&◌, ◌||◌, and-true, and_assoc}
use lib.Dec.{leb, ltb, eqb}
use borrow.Author.Tests.{lt-ltb, le-ltb, le-leb, lt-leb}
use Rattle.laws.specs.Lists.{all}
use Rattle.table.specs.Table.{word, count_of, strings}
use Rattle.table.specs.declared.Section.{Section}
use Rattle.row_tests.specs.Wrong.{no_string, no_optional, no_range, over, there, wrong}
use Rattle.search.specs.declared.Line.{Line}
use Rattle.quick_certs.specs.Asked.{row_fine}

-- ---- two numbers
pub below : (x n : ℕ) → ltb x n ≡ not (leb n x)
below x n = elim (dec_lt x n) [ yes l ↦ rw (lt-ltb x n l, lt-leb n x l) refl | no m ↦ rw (le-ltb x n (omega arith), le-leb n x (omega arith)) refl ]

pub at_most : (x k : ℕ) → leb x k ≡ not (ltb k x)
at_most x k = elim (dec_lt k x) [ yes l ↦ rw (lt-ltb k x l, lt-leb x k l) refl | no m ↦ rw (le-ltb k x (omega arith), le-leb x k (omega arith)) refl ]

-- ---- a word of a row
module _ (w : List ℕ) where
  module _ {n : ℕ} (e : n ≡ count_of w strings) (p : ℕ) where
    pub number_right : ltb (word w p) n ≡ not (no_string w p)
    unfolding no_string
    number_right = below (word w p) n ∙ rw e refl

    pub optional_right : leb (word w p) n ≡ not (no_optional w p)
    unfolding no_optional
    optional_right = at_most (word w p) n ∙ rw e refl

  module _ (s : Section) {n : ℕ} (e : n ≡ count_of w s) (p : ℕ) {r : Bool} where
    pub range_right : r ≡ not (ltb n (word w p + word w (p + 1))) → r ≡ not (no_range w s p)
    unfolding no_range
    range_right t = t ∙ rw e refl

    pub part_range_right : (m : ℕ) → r ≡ not (there w m && ltb n (word w p + word w (p + 1))) → r ≡ not (there w m && no_range w s p)
    unfolding no_range
    part_range_right m t = t ∙ rw e refl

  pub over_right : (k p : ℕ) → leb (word w p) k ≡ not (over w k p)
  unfolding over
  over_right k p = at_most (word w p) k

  -- where the part is there
  pub part_right : (m : ℕ) (t : Bool) {r : Bool} → r ≡ not t → (eqb (word w m) 0 || r) ≡ not (there w m && t)
  unfolding there
  part_right m t {r} e = go (eqb (word w m) 0) where
    go : (u : Bool) → (u || r) ≡ not (not u && t)
    go true = refl
    go false = e

-- ---- a row, line by line
module _ (w b : List ℕ) (q : ℕ) where
  pub fine_more : (l : Line) (ls : List Line) {r s : Bool} → r ≡ not (wrong l.test w b q l.word) → s ≡ row_fine w b ls q → (r && s) ≡ row_fine w b (l ∷ ls) q
  unfolding row_fine all
  fine_more l ls e f = rw (e, f) refl

  pub fine_last : (l : Line) {r : Bool} → r ≡ not (wrong l.test w b q l.word) → r ≡ row_fine w b (l ∷ []) q
  unfolding row_fine all
  fine_last l e = e ∙ sym (and-true _)

  fine_both : (ls ms : List Line) → (row_fine w b ls q && row_fine w b ms q) ≡ row_fine w b (ls ++ ms) q
  unfolding row_fine all
  fine_both [] ms = refl
  fine_both (l ∷ ls) ms = and_assoc (not (wrong l.test w b q l.word)) (row_fine w b ls q) (row_fine w b ms q) ∙ ap (λ (t : Bool). not (wrong l.test w b q l.word) && t) (fine_both ls ms)

  pub fine_then : (ls ms : List Line) {r s : Bool} → r ≡ row_fine w b ls q → s ≡ row_fine w b ms q → (r && s) ≡ row_fine w b (ls ++ ms) q
  fine_then ls ms e f = rw (e, f) (fine_both ls ms)
