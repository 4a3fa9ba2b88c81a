-- The two statements of a bundle with which nothing is wrong say the same. Assumes nothing.
use Prim.Native.Nat.{ℕ, zero-le}
use mathlib.Core.Path.{◌≡◌, refl, ap}
use mathlib.Core.Logic.{◌↔◌}
use mathlib.Core.List.{List, [], ◌∷◌, Memᴰ}
use mathlib.Core.Bool.{Bool, true, not}
use borrow.Author.Tests.{not-true}
use Rattle.laws.specs.Lists.{all}
use Rattle.laws.proofs.Meaning.{all_every, every_all}
use Rattle.laws.proofs.Tests.{and_left, and_right}
use Rattle.table.specs.declared.Section.{Section}
use Rattle.sections.specs.Placed.{misplaced}
use Rattle.row_tests.specs.Wrong.{wrong}
use Rattle.search.specs.declared.Line.{Line}
use Rattle.search.specs.Rows.{rows_of, row_at}
use Rattle.quick.specs.Fine.{all_placed, line_fine, all_fine}
use Rattle.quick.specs.Stated.{AllFine}
use Rattle.quick.proofs.Whole.{all_member, placed_in}

member_all : {A : Type 0} (p : A → Bool) (xs : List A) → ((x : A) → Memᴰ x xs → p x ≡ true) → all p xs ≡ true
unfolding all
member_all p [] h = refl
member_all p (x ∷ xs) h = rw (h x (Memᴰ.head refl)) (member_all p xs (λ y m. h y (Memᴰ.tail m)))

module _ (header : ℕ) (sections : List Section) (lines : List Line) (w b : List ℕ) where
  fine_all : all_fine header sections lines w b ≡ true → AllFine header sections lines w b
  unfolding all_fine line_fine
  fine_all h = record {
    placed = λ s m. placed_in header sections w s (and_left (all_placed header sections w) _ h) m;
    right = λ l m i n. not-true _ (all_every (λ i. not (wrong l.test w b (row_at (rows_of w l.block) i) l.word)) (λ i. i) 0 (rows_of w l.block).count (all_member (line_fine w b) l lines (and_right (all_placed header sections w) _ h) m) i zero-le n);
  }

  all_fine_law : AllFine header sections lines w b → all_fine header sections lines w b ≡ true
  unfolding all_fine all_placed line_fine
  all_fine_law h =
      rw (member_all (λ s. not (misplaced header w s)) sections (λ s m. ap not (h.placed s m)))
      (member_all (line_fine w b) lines (λ l m. every_all (λ i. not (wrong l.test w b (row_at (rows_of w l.block) i) l.word)) (λ i. i) 0 (rows_of w l.block).count (λ i k n. ap not (h.right l m i n))))

  pub fine_stated : (all_fine header sections lines w b ≡ true) ↔ AllFine header sections lines w b
  fine_stated = (fine_all, all_fine_law)
