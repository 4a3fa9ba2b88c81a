-- What rows are: one and the rest, their number, each of them, and a list as the rows of its own elements. Assumes nothing.
use Prim.Native.Nat.{ℕ, zero, suc, ◌+◌, ◌-◌, ◌≤◌, ◌<◌}
use native.Mathlib.Omega.{arith}
use native.Mathlib.Decide.{dec_lt}
use native.Mathlib.Nat.{add-zero, sub-zero}
use native.Mathlib.Numerals.{add-one}
use mathlib.Core.Path.{◌≡◌, refl, sym, ap, ◌∙◌}
use mathlib.Core.List.{List, [], ◌∷◌}
use borrow.Author.Tests.{le-leb, lt-leb}
use lib.Dec.{leb}
use lib.ListN.{get_or, length}
use Rattle.laws.specs.Lists.{run, rows, is_empty}

module _ {A : Type 0} (g : ℕ → A) where
  pub rows_step : (i e : ℕ) → i < e → rows g i e ≡ g i ∷ rows g (i + 1) e
  unfolding rows run
  rows_step i e h = let q : e - i ≡ suc (e - (i + 1)) = omega arith in rw q refl

  pub rows_end : (i e : ℕ) → e ≤ i → rows g i e ≡ []
  unfolding rows run
  rows_end i e h = let q : e - i ≡ 0 = omega arith in rw q refl

  run_length : (a k : ℕ) → length (run g a k) ≡ k
  unfolding run
  run_length a zero = refl
  run_length a (suc k) = ap suc (run_length (a + 1) k)

  pub rows_length : (a e : ℕ) → length (rows g a e) ≡ e - a
  unfolding rows
  rows_length a e = run_length a (e - a)

  run_at : (d : A) (a k n : ℕ) → n < k → get_or (run g a k) n d ≡ g (a + n)
  unfolding run
  run_at d a zero n h = absurd (omega arith)
  run_at d a (suc k) zero h = rw add-zero refl
  run_at d a (suc k) (suc n) h = let q : a + suc n ≡ a + 1 + n = omega arith in rw q (run_at d (a + 1) k n (omega arith))

  pub rows_at : (d : A) (a e n : ℕ) → a + n < e → get_or (rows g a e) n d ≡ g (a + n)
  unfolding rows
  rows_at d a e n h = run_at d a (e - a) n (omega arith)

  pub rows_empty : (a e : ℕ) → is_empty (rows g a e) ≡ leb e a
  rows_empty a e = elim (dec_lt a e) [ yes m ↦ rw (rows_step a e m) (sym (lt-leb e a m)) | no n ↦ let h : e ≤ a = omega arith in rw (rows_end a e h) (sym (le-leb e a h)) ]

-- element n of a list, d past its end
unfoldable pub at : {A : Type 0} → A → List A → ℕ → A
at d l n = get_or l n d

module _ {A : Type 0} (d : A) where
  run_shift : (x : A) (l : List A) (a k : ℕ) → run (at d (x ∷ l)) (suc a) k ≡ run (at d l) a k
  unfolding run at
  run_shift x l a zero = refl
  run_shift x l a (suc k) = simp add-one (ap (λ (t : List A). get_or l a d ∷ t) (run_shift x l (suc a) k))

  run_list : (l : List A) → run (at d l) 0 (length l) ≡ l
  unfolding run at
  run_list [] = refl
  run_list (x ∷ l) = ap (λ (t : List A). x ∷ t) (run_shift x l 0 (length l) ∙ run_list l)

  -- a list is the rows of its own elements
  pub list_rows : (l : List A) → rows (at d l) 0 (length l) ≡ l
  unfolding rows
  list_rows l = rw sub-zero (run_list l)
