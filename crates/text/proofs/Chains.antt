-- What the library answers of two texts: `==` of slices, and chains over both in step. Assumes nothing.
use native.Mathlib.Omega.{arith}
use native.Mathlib.Nat.{sub-zero}
use Prim.Native.Nat.{ℕ, zero, suc, ◌+◌, ◌-◌, ◌<◌}
use mathlib.Core.Path.{◌≡◌, refl, sym, ap, ◌∙◌}
use mathlib.Core.Bool.{Bool, true, false, ◌&&◌, and-true, and_assoc}
use mathlib.Core.List.{List, [], ◌∷◌}
use lib.ListN.{length, get_or}
use borrow.Author.Tests.{ne_eqb}
use Rattle.std.specs.Cmp.Lexicographic.{pointwise}
use Rattle.std.specs.List.{list_all, zip, fold, range_with_len}
use Rattle.laws.specs.Lists.{run, rows, each, eq_list}
use Rattle.laws.proofs.Rows.{at, list_rows}

module _ {A B : Type 0} (p : A → B → Bool) where
  pub each_of_pointwise : (a : List A) (b : List B) → pointwise p a b ≡ each p a b
  unfolding each
  each_of_pointwise [] [] = refl
  each_of_pointwise [] (y ∷ b) = refl
  each_of_pointwise (x ∷ a) [] = refl
  each_of_pointwise (x ∷ a) (y ∷ b) = ap (λ t. p x y && t) (each_of_pointwise a b)

  pub each_of_zip : (a : List A) (b : List B) → length a ≡ length b → list_all (λ (x : A × B). p x.0 x.1) (zip a b) ≡ each p a b
  unfolding each
  each_of_zip [] [] e = refl
  each_of_zip [] (y ∷ b) e = absurd (omega arith)
  each_of_zip (x ∷ a) [] e = absurd (omega arith)
  each_of_zip (x ∷ a) (y ∷ b) e = ap (λ t. p x y && t) (each_of_zip a b (omega arith))

-- texts that differ in their first byte
pub first_differs : (a b : List ℕ) → 0 < length a → (get_or a 0 0 ≡ get_or b 0 0 → ⊥) → false ≡ eq_list a b
unfolding each
first_differs [] b h n = absurd (omega arith)
first_differs (x ∷ a) [] h n = refl
first_differs (x ∷ a) (y ∷ b) h n = rw (ne_eqb x y n) refl

-- a list is the run of its own places
run_of : (l : List ℕ) → run (at 0 l) 0 (length l) ≡ l
unfolding rows
run_of l = rw sub-zero at (list_rows 0 l)

module _ (p : ℕ → ℕ → Bool) where
  -- a chain without a way out counts whether all agreed so far
  agreed : (f g : ℕ → ℕ) (t : Bool) (k n : ℕ) → fold (λ (t : Bool) (i : ℕ). t && p (f i) (g i)) t (range_with_len k n) ≡ (t && each p (run f k n) (run g k n))
  unfolding each run
  agreed f g t k zero = sym (and-true t)
  agreed f g t k (suc n) = agreed f g (t && p (f k) (g k)) (k + 1) n ∙ and_assoc t (p (f k) (g k)) (each p (run f (k + 1) n) (run g (k + 1) n))

  pub each_of_fold : (a b : List ℕ) → length a ≡ length b → fold (λ (t : Bool) (i : ℕ). t && p (at 0 a i) (at 0 b i)) true (range_with_len 0 (length a - 0)) ≡ each p a b
  each_of_fold a b e = rw sub-zero (agreed (at 0 a) (at 0 b) true 0 (length a) ∙ rw (run_of a, e, run_of b) refl)
