-- What whoever asks for a word in some row leans on. Assumes nothing.
use Prim.Native.Nat.{ℕ, zero, suc, ◌+◌, ◌-◌, ◌<◌, ◌≤◌}
use native.Mathlib.Omega.{arith}
use mathlib.Core.Path.{◌≡◌, refl, ap, ◌∙◌}
use mathlib.Core.List.{List}
use mathlib.Core.Bool.{Bool, true, false}
use lib.Dec.{eqb}
use borrow.Author.Tests.{lt-ltb, eq-eqb, ne_eqb}
use Rattle.laws.specs.Lists.{run, rows, any}
use Rattle.laws.proofs.Loops.{any_here, any_next, any_none}
use Rattle.table.specs.Table.{field_of, over}
use Rattle.table.specs.declared.Section.{Section}
use Rattle.table.specs.declared.Range.{Range}
use Rattle.view.specs.Shown.{rows_of, view_of, head_of, rest_of, some_word}
use Rattle.view.specs.declared.View.{View}

-- two readings of the same rows, and tests of them that agree at each row
module _ {A B : Type 0} (p : A → Bool) (q : B → Bool) (g : ℕ → A) (h : ℕ → B) (f : (n : ℕ) → p (g n) ≡ q (h n)) where
  run_agree : (a k : ℕ) → any p (run g a k) ≡ any q (run h a k)
  unfolding any run
  run_agree a zero = refl
  run_agree a (suc k) = rw (f a, run_agree (a + 1) k) refl

  rows_agree : (a e : ℕ) → any p (rows g a e) ≡ any q (rows h a e)
  unfolding rows
  rows_agree a e = run_agree a _

-- t is the answer for x; x is the word j of just those rows of which q, of what h reads there, holds
pub some_row : {B : Type 0} (q : B → Bool) (h : ℕ → B) (w : List ℕ) (s : Section) (r : Range) (j x : ℕ) {t : Bool} → t ≡ some_word w s r j x → ((n : ℕ) → eqb (field_of w s n j) x ≡ q (h n)) → t ≡ any q (over h r)
unfolding some_word
some_row q h w s r j x e f = e ∙ rows_agree (λ y. eqb y x) q (λ n. field_of w s n j) h f r.from r.to

-- ---- the search for a word: a view of the rows that are left of a range
module _ (w : List ℕ) (s : Section) (to j x : ℕ) (whole : Bool) where
  -- the view shows the rows of the range from its first on, and these answer for all
  pub record Left (v : View) : Type 0 where
    pub words : v.words.now ≡ w
    pub section : v.rows.section ≡ s
    pub end : v.rows.range.to ≡ to
    pub answer : whole ≡ any (λ y. eqb y x) (rows (λ n. field_of w s n j) v.rows.range.from to)

  module _ (v : View) (i : Left v) where
    -- what is read where the view stands
    read : {y : ℕ} → y ≡ head_of v.words.now v.rows j → y ≡ field_of w s v.rows.range.from j
    unfolding head_of
    read e = e ∙ rw (i.words, i.section) refl

    pub found : {y : ℕ} → v.rows.range.from < v.rows.range.to → y ≡ head_of v.words.now v.rows j → y ≡ x → true ≡ whole
    found l e h = let m : v.rows.range.from < to = rw (← i.end) l in
        any_here _ _ _ _ m (ap (λ z. eqb z x) (read e)) (eq-eqb _ _ h) i.answer

    pub ended : v.rows.range.to ≤ v.rows.range.from → false ≡ whole
    ended l = let m : to ≤ v.rows.range.from = rw (← i.end) l in any_none _ _ _ _ m i.answer

    module _ (q : View) (e : q ≡ view_of v.words (rest_of v.rows)) (l : v.rows.range.from < v.rows.range.to) where
      -- a row is left, so the rest begins at the next
      stepped : q ≡ view_of v.words (rows_of v.rows.section (record { from = v.rows.range.from + 1; to = v.rows.range.to }))
      unfolding rest_of
      stepped = e ∙ rw (lt-ltb _ _ l) refl

      pub shorter : q.rows.range.to - q.rows.range.from < v.rows.range.to - v.rows.range.from
      shorter = rw stepped (omega arith)

      pub left : {y : ℕ} → y ≡ head_of v.words.now v.rows j → (y ≡ x → ⊥) → Left q
      left f n = let m : v.rows.range.from < to = rw (← i.end) l in rw stepped (record {
        words = i.words;
        section = i.section;
        end = i.end;
        answer = any_next _ _ _ _ m (ap (λ z. eqb z x) (read f)) (ne_eqb _ _ n) i.answer;
      })
