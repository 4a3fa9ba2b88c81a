-- Strings that lie in the bytes, and are read where they stand. Assumes nothing.
use Prim.Native.Nat.{ℕ, ◌+◌, ◌*◌, ◌-◌, ◌≤◌, ◌<◌, zero-le}
use native.Mathlib.Omega.{arith}
use native.Mathlib.Nat.{add-zero}
use mathlib.Core.Path.{◌≡◌, refl, sym, ◌∙◌}
use mathlib.Core.List.{List}
use mathlib.Core.Bool.{Bool, not}
use lib.Dec.{ltb}
use lib.ListN.{length, take, drop}
use borrow.Author.Tests.{ltb-false, not-true}
use Rattle.laws.specs.Lists.{numbers, any, all}
use Rattle.laws.proofs.Meaning.{all_every}
use Rattle.ascii.specs.Bytes.{is_high}
use Rattle.table.specs.Table.{word, part, count_of, offset_of, field_of, strings, string_of}
use Rattle.row_tests.specs.Wrong.{high_string, string_out}
use Rattle.search.specs.Rows.{rows_of}
use Rattle.quick.specs.Fine.{line_fine}
use Rattle.quick.specs.Asked.{string_line, StringsLie}

module _ (w b : List ℕ) where
  string_rows : line_fine w b string_line ≡ all (λ i. not (ltb (length b) (word w (offset_of w strings + 2 * i) + word w (offset_of w strings + 2 * i + 1)))) (numbers 0 (count_of w strings))
  unfolding line_fine rows_of string_out
  string_rows = simp add-zero

  pub string_row : (q : ℕ) {r : Bool} → r ≡ not (ltb (length b) (word w q + word w (q + 1))) → r ≡ not (string_out w b (q + 0))
  unfolding string_out
  string_row q t = t ∙ rw add-zero refl

  module _ (h : StringsLie w b) (n : ℕ) (l : n < count_of w strings) {at : ℕ} (e : at ≡ offset_of w strings) where
    pub string_ends : word w (at + 2 * n) + word w (at + 2 * n + 1) ≤ length b
    string_ends = rw e (ltb-false _ _ (not-true _ (all_every (λ i. not (ltb (length b) (word w (offset_of w strings + 2 * i) + word w (offset_of w strings + 2 * i + 1)))) (λ i. i) 0 (count_of w strings) (sym string_rows ∙ h.1) n zero-le l)))

    pub string_read : {r : Bool} → r ≡ any is_high (take (word w (at + 2 * n) + word w (at + 2 * n + 1) - word w (at + 2 * n)) (drop (word w (at + 2 * n)) b)) → r ≡ high_string w b n
    unfolding high_string string_of field_of part
    string_read t =
        let q : word w (at + 2 * n) + word w (at + 2 * n + 1) - word w (at + 2 * n) ≡ word w (at + 2 * n + 1) = omega arith in
        t ∙ rw (q, e, add-zero) refl
