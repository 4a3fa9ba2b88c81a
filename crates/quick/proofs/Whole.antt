-- From the rows of each section to the lines of a bundle. Assumes nothing.
use Prim.Native.Nat.{ℕ}
use mathlib.Core.Path.{◌≡◌, refl, sym, ap, ◌∙◌}
use mathlib.Core.Logic.{⊎_elim}
use mathlib.Core.List.Memᴰ
use mathlib.Core.List.{List, [], ◌∷◌, map, Memᴰ}
use mathlib.Core.Bool.{Bool, true, false, not, ◌&&◌, and_assoc, and-true}
use lib.Dec.{eqb}
use borrow.Author.Tests.{not-true}
use Rattle.laws.specs.Lists.{pick, run, rows, numbers, all}
use Rattle.laws.proofs.Tests.{and_left, and_right}
use Rattle.table.specs.declared.Section.{Section}
use Rattle.sections.specs.Placed.{misplaced}
use Rattle.row_tests.specs.Wrong.{wrong}
use Rattle.search.specs.declared.Line.{Line}
use Rattle.search.specs.declared.Block.{Block}
use Rattle.search.specs.declared.Block.TheVariants.{Header}
use Rattle.search.specs.Rows.{rows_of, row_at}
use Rattle.quick_certs.specs.Asked.{row_fine, rows_fine, count_word, lines_of, Lies}
use Rattle.quick_certs.proofs.Steps.{placed_lies}
use Rattle.quick.specs.Fine.{all_placed, line_fine}

-- ---- two tests of a list at once
-- a, b, c and d in another order
swapped : (a b c d : Bool) → ((a && b) && (c && d)) ≡ ((a && c) && (b && d))
swapped false b c d = refl
swapped true false false d = refl
swapped true false true d = refl
swapped true true c d = refl

module _ {A : Type 0} where
  all_true : (l : List A) → true ≡ all (λ x. true) l
  unfolding all
  all_true [] = refl
  all_true (x ∷ l) = all_true l

  all_and : (p q : A → Bool) (l : List A) → (all p l && all q l) ≡ all (λ x. p x && q x) l
  unfolding all
  all_and p q [] = refl
  all_and p q (x ∷ l) = swapped (p x) (all p l) (q x) (all q l) ∙ ap (λ (t : Bool). (p x && q x) && t) (all_and p q l)

-- ---- the lines of one block: each in all rows, or all in each row
module _ (w b : List ℕ) (x : Block) where
  pub block_rows : (ls : List Line) → map (λ (l : Line). l.block) ls ≡ map (λ (l : Line). x) ls → all (line_fine w b) ls ≡ rows_fine w b ls x
  unfolding all rows_fine row_fine line_fine
  block_rows [] e = all_true (numbers 0 (rows_of w x).count)
  block_rows (l ∷ ls) e =
      let here : l.block ≡ x = cc in
      let there : map (λ (l : Line). l.block) ls ≡ map (λ (l : Line). x) ls = cc in
      rw (here, block_rows ls there) (all_and (λ i. not (wrong l.test w b (row_at (rows_of w x) i) l.word)) (λ i. row_fine w b ls (row_at (rows_of w x) i)) (numbers 0 (rows_of w x).count))

-- ---- the lines with a word, and the others
abbrev pub others_of : ℕ → List Line → List Line
others_of k [] = []
others_of k (l ∷ ls) = pick (eqb (count_word l.block) k) (others_of k ls) (l ∷ others_of k ls)

moved : (a c d : Bool) → (a && (c && d)) ≡ (c && (a && d))
moved true c d = refl
moved false false d = refl
moved false true d = refl

pub split : (f : Line → Bool) (k : ℕ) (ls : List Line) → all f ls ≡ (all f (lines_of k ls) && all f (others_of k ls))
unfolding all
split f k [] = refl
split f k (l ∷ ls) = go (eqb (count_word l.block) k) (split f k ls) where
  go : (t : Bool) → all f ls ≡ (all f (lines_of k ls) && all f (others_of k ls)) → (f l && all f ls) ≡ (all f (pick t (l ∷ lines_of k ls) (lines_of k ls)) && all f (pick t (others_of k ls) (l ∷ others_of k ls)))
  go true e = rw e (sym (and_assoc (f l) (all f (lines_of k ls)) (all f (others_of k ls))))
  go false e = rw e (moved (f l) (all f (lines_of k ls)) (all f (others_of k ls)))

-- ---- sections in their places
module _ {A : Type 0} (p : A → Bool) where
  pub all_member : (x : A) (xs : List A) → all p xs ≡ true → Memᴰ x xs → p x ≡ true
  unfolding all
  all_member x [] h m = absurd (Memᴰ.not-nil m)
  all_member x (y ∷ xs) h m = ⊎_elim (λ e. rw e (and_left (p y) _ h)) (λ t. all_member x xs (and_right (p y) _ h) t) (Memᴰ.cases_cons m)

module _ (header : ℕ) (sections : List Section) (w : List ℕ) (s : Section) (h : all_placed header sections w ≡ true) (m : Memᴰ s sections) where
  pub placed_in : misplaced header w s ≡ false
  unfolding all_placed
  placed_in = not-true _ (all_member (λ s. not (misplaced header w s)) s sections h m)

  pub lies_in : Lies w s
  lies_in = placed_lies header w s refl placed_in

-- the header is one row
pub header_rows : (w b : List ℕ) (ls : List Line) → rows_fine w b ls Header ≡ row_fine w b ls 0
unfolding rows_fine rows_of rows run all
header_rows w b ls = and-true (row_fine w b ls 0)
