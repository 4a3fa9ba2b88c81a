-- The range of a list, and of one past the end. Assumes nothing.
use Prim.Native.Nat.{ℕ, ◌+◌, ◌≤◌}
use native.Mathlib.Omega.{arith}
use mathlib.Core.Path.{◌≡◌, refl, ◌∙◌}
use mathlib.Core.List.{List}
use lib.ListN.{length}
use Rattle.table.specs.Table.{word}
use Rattle.table.specs.declared.Range.{Range}
use Rattle.table.proofs.Laws.{word_past}
use Rattle.model.specs.Sections.{entries}
use Rattle.model.specs.Decode.{rows_in, list_word, list_range}

pub list_past : (w : List ℕ) (k : ℕ) {r : Range} → length w ≤ k → r ≡ rows_in w entries 0 0 → r ≡ list_range w k
unfolding list_range
list_past w k h t = t ∙ rw (← word_past w (list_word k) (omega arith), ← word_past w (list_word k + 1) (omega arith)) refl

pub list_at : (w : List ℕ) (k : ℕ) {r : Range} {a n : ℕ} → a ≡ word w (list_word k) → n ≡ word w (list_word k + 1) → r ≡ rows_in w entries a n → r ≡ list_range w k
unfolding list_range
list_at w k e f t = t ∙ rw (e, f) refl
