-- What a view shows, and what the search in it means. Assumes nothing.
use Prim.Native.Nat.{ℕ, ◌≤◌, ◌<◌}
use native.Mathlib.Omega.{arith}
use native.Mathlib.Decide.{dec_lt}
use mathlib.Core.Path.{◌≡◌, refl}
use mathlib.Core.Logic.{◌↔◌}
use mathlib.Core.List.{List}
use mathlib.Core.Bool.{true}
use lib.Dec.{eqb}
use lib.ListN.{get_or, drop}
use borrow.Author.Tests.{lt-ltb, le-ltb, eq-eqb, eqb-true}
use Rattle.laws.proofs.Rows.{rows_step, rows_end}
use Rattle.laws.proofs.Meaning.{any_some, some_any}
use Rattle.table.specs.Table.{field_of}
use Rattle.table.specs.declared.Section.{Section}
use Rattle.table.specs.declared.Range.{Range}
use Rattle.view.specs.Shown.{column_of, head_of, rest_of, some_word}
use Rattle.view.specs.Stated.{SomeWord}
use Rattle.view.specs.declared.Rows.{Rows}

module _ (w : List ℕ) (r : Rows) (j : ℕ) where
  -- where a row is left, what is read of it is the first that the view shows
  pub head_shown : r.range.from < r.range.to → head_of w r j ≡ get_or (column_of w r j) 0 0
  unfolding head_of
  head_shown l = rw (rows_step (λ n. field_of w r.section n j) r.range.from r.range.to l) refl

  -- a step takes the first off
  pub rest_shown : column_of w (rest_of r) j ≡ drop 1 (column_of w r j)
  unfolding rest_of
  rest_shown = elim (dec_lt r.range.from r.range.to) [ yes l ↦ left l | no l ↦ none (omega arith) ] where
    left : r.range.from < r.range.to → column_of w (rest_of r) j ≡ drop 1 (column_of w r j)
    left l = rw (lt-ltb _ _ l, rows_step (λ n. field_of w r.section n j) r.range.from r.range.to l) refl

    none : r.range.to ≤ r.range.from → column_of w (rest_of r) j ≡ drop 1 (column_of w r j)
    none l = rw (le-ltb _ _ l, rows_end (λ n. field_of w r.section n j) r.range.from r.range.to l) refl

pub some_word_means : (w : List ℕ) (s : Section) (r : Range) (j x : ℕ) → (some_word w s r j x ≡ true) ↔ SomeWord w s r j x
unfolding some_word
some_word_means w s r j x = (to, from) where
  to : some_word w s r j x ≡ true → SomeWord w s r j x
  to h = let (n, l, m, e) = any_some (λ y. eqb y x) (λ n. field_of w s n j) r.from r.to h in (n, l, m, eqb-true _ _ e)

  from : SomeWord w s r j x → some_word w s r j x ≡ true
  from (n, l, m, e) = some_any (λ y. eqb y x) (λ n. field_of w s n j) r.from r.to (n, l, m, eq-eqb _ _ e)
