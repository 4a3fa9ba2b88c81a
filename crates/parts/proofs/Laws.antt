-- What the functions of this crate lean on. Assumes nothing.
use Prim.Native.Nat.{ℕ, ◌-◌, ◌^◌, ◌≤◌, ◌<◌}
use native.Mathlib.Omega.{arith}
use native.Mathlib.Decide.{dec_lt}
use mathlib.Core.Path.{◌≡◌, refl, sym, ◌∙◌}
use mathlib.Core.Bool.{Bool, not, ◌&&◌, and-true}
use lib.Dec.{ltb, leb}
use lib.IntN.{ℤ, pos}
use lib.Signed.{le_z}
use mir.Syntax.{w64}
use mir.Val.{to_z, of_z, SFits}
use mir.Facts.{to_z-of_z}
use borrow.Author.Tests.{ne_eqb, lt-ltb, le-ltb, le-leb, lt-leb}
use Rattle.laws.specs.Lists.{is_empty}
use Rattle.laws.proofs.Rows.{rows_empty}
use Rattle.table.specs.Table.{over}
use Rattle.table.specs.declared.Range.{Range}
use Rattle.model.specs.Decode.{signed_of}
use Rattle.parts.specs.PathLength.{long_enough}

-- ---- rule 10; l is the path length, which is as wide as its type
module _ (i : ℕ) (l : ℤ) (f : SFits w64 l) where
  pub at_leaf : i ≡ 0 → le_z (pos 0) (to_z w64 (of_z w64 l)) ≡ long_enough i l
  unfolding long_enough
  at_leaf e = rw (to_z-of_z f, e) (sym (and-true (le_z (pos 0) l)))

  pub above_leaf_law : (i ≡ 0 → ⊥) → i < 2 ^ 32 → (le_z (pos 0) (to_z w64 (of_z w64 l)) && le_z (to_z w64 (i - 1)) (to_z w64 (of_z w64 l))) ≡ long_enough i l
  unfolding long_enough
  above_leaf_law e m = rw (to_z-of_z f, ne_eqb i 0 e, lt-ltb (i - 1) (2 ^ 63) (omega arith)) refl

-- a path length that was read and handed on
pub length_read : (i w : ℕ) {l : ℤ} {v : ℕ} {r : Bool} → SFits w64 l → l ≡ signed_of v → v ≡ w → r ≡ long_enough i (to_z w64 (of_z w64 l)) → r ≡ long_enough i (signed_of w)
length_read i w f e d h = h ∙ rw (to_z-of_z f, e, d) refl

-- ---- rules 11 and 12: a range that has a row
pub some_row : {A : Type 0} (g : ℕ → A) (s : Range) {r : Range} → r ≡ s → ltb r.from r.to ≡ not (is_empty (over g s))
some_row g s e = rw (e, rows_empty g s.from s.to) (turned s.from s.to) where
  turned : (a b : ℕ) → ltb a b ≡ not (leb b a)
  turned a b = elim (dec_lt a b) [ yes l ↦ lt-ltb a b l ∙ rw (lt-leb b a l) refl | no l ↦ let m : b ≤ a = omega arith in le-ltb a b m ∙ rw (le-leb b a m) refl ]
