-- The first of several faults: found line by line, and the only one. Assumes nothing.
use Prim.Native.Nat.{ℕ, ◌+◌, ◌<◌, ◌≤◌, zero-le}
use native.Mathlib.Omega.{arith}
use native.Mathlib.Decide.{dec_lt}
use native.Mathlib.Nat.{mul-le-mul_left}
use mathlib.Core.Path.{◌≡◌, refl, sym, ◌∙◌}
use mathlib.Core.Logic.{◌⊎◌, inl, inr, ⊎_elim}
use mathlib.Core.List.Memᴰ
use mathlib.Core.List.{List, [], ◌∷◌, Memᴰ}
use mathlib.Core.Bool.{Bool, true, false, ◌&&◌, ◌||◌, true≢false}
use lib.Dec.{eqb, ltb}
use borrow.Author.Tests.{ltb-true, ltb-false, eqb-true, eq-eqb}
use Rattle.laws.specs.Lists.{pick, Least}
use Rattle.laws.proofs.Meaning.{least_is}
use Rattle.laws.proofs.Tests.{and_left, and_right, or_left, or_right}
use Rattle.table.specs.declared.Section.{Section}
use Rattle.std.specs.declared.option.Option.{Option}
use Rattle.std.specs.declared.option.Option.TheVariants.{Some, None}
use Rattle.sections.specs.declared.Fault.{Fault}
use Rattle.sections.specs.Found.{earlier_of, found_each}
use Rattle.sections.specs.Placed.{misplaced, found_section}
use Rattle.row_tests.specs.Wrong.{wrong}
use Rattle.search.specs.declared.Line.{Line}
use Rattle.search.specs.Rows.{rows_of, row_at}
use Rattle.search.specs.Found.{in_words, searched, first_row, found_at, found_in}
use Rattle.sound.specs.Answer.{Before, First}
use Rattle.sound.proofs.Tables.{InRows, InLine}

-- what was found is the first of the faults F
abbrev pub FirstOf : (ℕ → ℕ → Type 0) → Option Fault → Type 0
FirstOf F None = (n p : ℕ) → F n p → ⊥
FirstOf F (Some f) = First F f.number f.word

-- ---- the order of faults
before_trans : (a c m q n p : ℕ) → Before a c m q → Before m q n p → Before a c n p
before_trans a c m q n p = ⊎_elim
    (λ l. ⊎_elim (λ k. inl (omega arith)) (λ k. inl (omega (arith, k.0))))
    (λ l. ⊎_elim (λ k. inl (omega (arith, l.0))) (λ k. inr (l.0 ∙ k.0, omega (arith, l.1, k.1))))

-- the fault (a, c) goes before (n, p), and (m, q) doesn't: then it goes before (m, q) too
before_other : (a c m q n p : ℕ) → Before a c n p → n ≤ m → (m ≡ n → p ≤ q) → Before a c m q
before_other a c m q n p = ⊎_elim
    (λ l h k. inl (omega arith))
    (λ l h k. elim (dec_lt n m) [ yes g ↦ inl (omega (arith, l.0)) | no g ↦ let e : m ≡ n = omega arith in inr (l.0 ∙ sym e, omega (arith, l.1, k e)) ])

earlier_true : (m q n p : ℕ) → (ltb m n || (eqb m n && ltb q p)) ≡ true → Before m q n p
earlier_true m q n p h = go (ltb m n) refl h where
  go : (t : Bool) → ltb m n ≡ t → (t || (eqb m n && ltb q p)) ≡ true → Before m q n p
  go true e h = inl (ltb-true m n e)
  go false e h = inr (eqb-true m n (and_left (eqb m n) _ h), ltb-true q p (and_right (eqb m n) _ h))

module _ (m q n p : ℕ) (h : (ltb m n || (eqb m n && ltb q p)) ≡ false) where
  earlier_low : n ≤ m
  earlier_low = ltb-false m n (or_left (ltb m n) _ h)

  earlier_same : m ≡ n → p ≤ q
  earlier_same e = ltb-false q p (rw (eq-eqb m n e) at (or_right (ltb m n) _ h))

-- ---- two faults: the earlier is the first of both kinds
module _ (F G : ℕ → ℕ → Type 0) where
  pub earlier_first : (f g : Option Fault) → FirstOf F f → FirstOf G g → FirstOf (λ n p. F n p ⊎ G n p) (earlier_of f g)
  earlier_first None None a b = λ n p. ⊎_elim (a n p) (b n p)
  earlier_first None (Some g) a b = record { due = inr b.due; before = λ k c o. ⊎_elim (a k c) (b.before k c o) }
  earlier_first (Some f) None a b = record { due = inl a.due; before = λ k c o. ⊎_elim (a.before k c o) (b k c) }
  earlier_first (Some f) (Some g) a b = go (ltb g.number f.number || (eqb g.number f.number && ltb g.word f.word)) refl where
    go : (t : Bool) → (ltb g.number f.number || (eqb g.number f.number && ltb g.word f.word)) ≡ t → FirstOf (λ n p. F n p ⊎ G n p) (pick t (Some g) (Some f))
    go true e = record { due = inr b.due; before = λ k c o. ⊎_elim (a.before k c (before_trans k c g.number g.word f.number f.word o (earlier_true g.number g.word f.number f.word e))) (b.before k c o) }
    go false e = record { due = inl a.due; before = λ k c o. ⊎_elim (a.before k c o) (b.before k c (before_other k c g.number g.word f.number f.word o (earlier_low g.number g.word f.number f.word e) (earlier_same g.number g.word f.number f.word e))) }

-- faults that are the same have the same first
pub first_same : (F G : ℕ → ℕ → Type 0) → ((n p : ℕ) → F n p → G n p) → ((n p : ℕ) → G n p → F n p) → (f : Option Fault) → FirstOf F f → FirstOf G f
first_same F G t u None a = λ n p g. a n p (u n p g)
first_same F G t u (Some g) a = record { due = t g.number g.word a.due; before = λ n p o h. a.before n p o (u n p h) }

-- ---- a list of things to look at, each with faults of its own
module _ {A : Type 0} (G : A → ℕ → ℕ → Type 0) (found : A → Option Fault) where
  abbrev pub SomeOf : List A → ℕ → ℕ → Type 0
  SomeOf xs n p = (x : A) × Memᴰ x xs × G x n p

  pub all_first : (F : ℕ → ℕ → Type 0) (f : Option Fault) (xs : List A) → ((x : A) → Memᴰ x xs → FirstOf (G x) (found x)) → FirstOf F f → FirstOf (λ n p. F n p ⊎ SomeOf xs n p) (found_each found f xs)
  unfolding found_each
  all_first F f [] each a = first_same F (λ n p. F n p ⊎ SomeOf [] n p) (λ n p h. inl h) (λ n p. ⊎_elim (λ h. h) (λ s. absurd (Memᴰ.not-nil s.1))) f a
  all_first F f (x ∷ xs) each a =
      first_same (λ n p. (F n p ⊎ G x n p) ⊎ SomeOf xs n p) (λ n p. F n p ⊎ SomeOf (x ∷ xs) n p)
      (λ n p. ⊎_elim (⊎_elim inl (λ g. inr (x, Memᴰ.head refl, g))) (λ s. inr (s.0, Memᴰ.tail s.1, s.2)))
      (λ n p. ⊎_elim (λ h. inl (inl h)) (λ s. ⊎_elim (λ e. inl (inr (rw (← e) s.2))) (λ t. inr (s.0, t, s.2)) (Memᴰ.cases_cons s.1)))
      (found_each found (earlier_of f (found x)) xs)
      (all_first (λ n p. F n p ⊎ G x n p) (earlier_of f (found x)) xs (λ y m. each y (Memᴰ.tail m)) (earlier_first F (G x) f (found x) a (each x (Memᴰ.head refl))))

-- ---- a line: its first wrong row has the lowest word
module _ (w b : List ℕ) (l : Line) where
  abbrev pub LineFault : ℕ → ℕ → Type 0
  LineFault n p = (n ≡ l.number) × InLine w b l p

  module _ (i m : ℕ) where
    later : m ≤ i → row_at (rows_of w l.block) m ≤ row_at (rows_of w l.block) i
    later h = omega (arith, mul-le-mul_left {m = m} {n = i} (rows_of w l.block).size h)

  line_first : (m : ℕ) → Least (λ i. wrong l.test w b (row_at (rows_of w l.block) i) l.word) 0 (rows_of w l.block).count m → FirstOf LineFault (found_at l (rows_of w l.block) m)
  unfolding found_at InRows
  line_first m s = go (ltb m (rows_of w l.block).count) refl where
    go : (t : Bool) → ltb m (rows_of w l.block).count ≡ t → FirstOf LineFault (pick t (Some (record { number = l.number; word = row_at (rows_of w l.block) m + l.word })) None)
    go true e =
        let h : m < (rows_of w l.block).count = ltb-true _ _ e in
        record {
          due = (refl, (m, h, refl, s.passes h));
          before = λ n p o f. elim (dec_lt f.1.0 m) [
            | yes k ↦ true≢false (sym f.1.3 ∙ s.before f.1.0 zero-le k)
            | no k ↦ ⊎_elim (λ a. omega (arith, f.0)) (λ a. omega (arith, a.1, f.1.2, later f.1.0 m (omega arith))) o
          ];
        }
    go false e = λ n p f. true≢false (sym f.1.3 ∙ s.before f.1.0 zero-le (omega (arith, f.1.1, ltb-false m (rows_of w l.block).count e)))

  pub found_first : in_words w l.block ≡ true → FirstOf LineFault (found_in w b l)
  unfolding found_in first_row searched
  found_first e = rw e (line_first _ (least_is (λ i. wrong l.test w b (row_at (rows_of w l.block) i) l.word) 0 (rows_of w l.block).count zero-le))

-- ---- a section
module _ (header : ℕ) (w : List ℕ) (s : Section) where
  abbrev pub SectionFault : ℕ → ℕ → Type 0
  SectionFault n p = (n ≡ 4) × (p ≡ s.count) × (misplaced header w s ≡ true)

  pub section_first : FirstOf SectionFault (found_section header w s)
  unfolding found_section
  section_first = go (misplaced header w s) refl where
    go : (t : Bool) → misplaced header w s ≡ t → FirstOf SectionFault (pick t (Some (record { number = 4; word = s.count })) None)
    go true e = record { due = (refl, refl, e); before = λ n p o f. ⊎_elim (λ a. omega (arith, f.0)) (λ a. omega (arith, a.1, f.1)) o }
    go false e = λ n p f. true≢false (sym f.2 ∙ e)
