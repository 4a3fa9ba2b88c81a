-- From what is found to the answer, for any layout whose lines are numbered from 5 on. Assumes nothing.
use Prim.Native.Nat.{ℕ, ◌+◌, ◌<◌, ◌≤◌}
use native.Mathlib.Omega.{arith}
use native.Mathlib.Decide.{dec_lt}
use mathlib.Core.Path.{◌≡◌, refl, sym, ap, ◌∙◌}
use mathlib.Core.Logic.{◌⊎◌, inl, inr, ⊎_elim, ◌↔◌}
use mathlib.Core.List.{List, Memᴰ}
use mathlib.Core.Bool.{Bool, true, false, not, true≢false}
use lib.Dec.{eqb}
use Rattle.table.specs.Table.{word}
use Rattle.table.specs.declared.Section.{Section}
use Rattle.std.specs.declared.option.Option.{Option}
use Rattle.std.specs.declared.option.Option.TheVariants.{Some, None}
use Rattle.sections.specs.declared.Fault.{Fault}
use Rattle.sections.specs.Found.{found_each}
use Rattle.sections.specs.Placed.{misplaced, found_section}
use Rattle.row_tests.specs.Wrong.{wrong}
use Rattle.search.specs.declared.Line.{Line}
use Rattle.search.specs.Rows.{rows_of, row_at}
use Rattle.search.specs.Found.{found_in}
use Rattle.sound.specs.declared.Bundle.{Bundle}
use Rattle.sound.specs.declared.Bundle.TheVariants.{Chain, Policy}
use Rattle.sound.specs.declared.Place.{Place}
use Rattle.sound.specs.declared.Place.TheVariants.{Nothing, Word, Certificate, Pair}
use Rattle.std.specs.declared.result.Result.TheVariants.{Ok, Err}
use Rattle.std.specs.Prelude.{is_err}
use Rattle.sound.specs.declared.Refusal.{Refusal}
use Rattle.sound.specs.Answer.{bundle_number, place_kind, place_first, Before, First, Checked, refused, Verdict}
use Rattle.sound.specs.Steps.{answer_of, first_word_fault}
use Rattle.sound.specs.Limits.{edition}
use Rattle.quick.specs.Fine.{all_fine}
use Rattle.quick.specs.Stated.{AllFine}
use Rattle.quick.proofs.Theorems.{fine_stated}
use Rattle.sound.proofs.Fitting.{Within}
use Rattle.sound.proofs.Tables.{InRows, Layout, TableFault, size, other, section, row, Knows}
use Rattle.sound.proofs.Order.{FirstOf, all_first, first_same, LineFault, found_first, SectionFault, section_first}

module _ (y : Layout) (w b : List ℕ) (from5 : (l : Line) → Memᴰ l y.lines → 5 ≤ l.number) where
  -- ---- the faults by stage
  abbrev Sections : ℕ → ℕ → Type 0
  Sections n p = (s : Section) × Memᴰ s y.sections × SectionFault y.header w s n p

  abbrev Lines : ℕ → ℕ → Type 0
  Lines n p = (l : Line) × Memᴰ l y.lines × LineFault w b l n p

  sections_first : FirstOf Sections (found_each (found_section y.header w) None y.sections)
  sections_first = first_same (λ n p. ⊥ ⊎ Sections n p) Sections (λ n p. ⊎_elim absurd (λ h. h)) (λ n p h. inr h) (found_each (found_section y.header w) None y.sections) (all_first (SectionFault y.header w) (found_section y.header w) (λ n p. ⊥) None y.sections (λ s m. section_first y.header w s) (λ n p h. h))

  -- what a fault is, from each stage on
  stage4 : y.large ≡ false → not (eqb (word w 0) edition) ≡ false → (n p : ℕ) → TableFault y w b n p → Sections n p ⊎ Lines n p
  stage4 g e n p (size h k t) = absurd (true≢false (sym t ∙ g))
  stage4 g e n p (other h k t) = absurd (true≢false (sym t ∙ e))
  stage4 g e n p (section s m h k t) = inl (s, m, (h, k, t))
  stage4 g e n p (row l m h t) = inr (l, m, (h, t))

  -- ---- each answer
  pub too_large : y.large ≡ true → First (TableFault y w b) 2 0
  too_large t = record { due = size refl refl t; before = λ n p o f. low n p o f } where
    low : (n p : ℕ) → Before n p 2 0 → TableFault y w b n p → ⊥
    low n p o (size h k t) = ⊎_elim (λ a. omega arith) (λ a. omega (arith, a.1)) o
    low n p o (other h k t) = ⊎_elim (λ a. omega arith) (λ a. omega (arith, a.1)) o
    low n p o (section s m h k t) = ⊎_elim (λ a. omega arith) (λ a. omega (arith, a.1)) o
    low n p o (row l m h t) = ⊎_elim (λ a. omega (arith, from5 l m)) (λ a. omega (arith, a.1)) o

  module _ (g : y.large ≡ false) where
    pub other_edition_law : not (eqb (word w 0) edition) ≡ true → First (TableFault y w b) 3 0
    other_edition_law t = record { due = other refl refl t; before = λ n p o f. low n p o f } where
      low : (n p : ℕ) → Before n p 3 0 → TableFault y w b n p → ⊥
      low n p o (size h k t) = absurd (true≢false (sym t ∙ g))
      low n p o (other h k t) = ⊎_elim (λ a. omega arith) (λ a. omega (arith, a.1)) o
      low n p o (section s m h k t) = ⊎_elim (λ a. omega arith) (λ a. omega (arith, a.1)) o
      low n p o (row l m h t) = ⊎_elim (λ a. omega (arith, from5 l m)) (λ a. omega (arith, a.1)) o

    module _ (e : not (eqb (word w 0) edition) ≡ false) where
      pub misplaced_first : (f : Fault) → found_each (found_section y.header w) None y.sections ≡ Some f → First (TableFault y w b) f.number f.word
      misplaced_first x q =
          let s : First Sections x.number x.word = rw q at sections_first in
          let (a, m, (f, k, t)) = s.due in
          record { due = section a m f k t; before = λ i c o h. ⊎_elim (s.before i c o) (λ l. ⊎_elim (λ x. omega (arith, f, l.2.0, from5 l.0 l.1)) (λ x. omega (arith, f, x.0, l.2.0, from5 l.0 l.1)) o) (stage4 g e i c h) }

      module _ (c : found_each (found_section y.header w) None y.sections ≡ None) where
        no_section : (n p : ℕ) → Sections n p → ⊥
        no_section = rw c at sections_first

        -- each section lies in the words
        placed : (s : Section) → Memᴰ s y.sections → misplaced y.header w s ≡ false
        placed s m = go (misplaced y.header w s) refl where
          go : (t : Bool) → misplaced y.header w s ≡ t → t ≡ false
          go true h = absurd (no_section 4 s.count (s, m, (refl, refl, h)))
          go false h = refl

        module _ (within : Within y.header y.sections y.lines w) where
          lines_first : FirstOf Lines (found_each (found_in w b) None y.lines)
          lines_first = first_same (λ n p. ⊥ ⊎ Lines n p) Lines (λ n p. ⊎_elim absurd (λ h. h)) (λ n p h. inr h) (found_each (found_in w b) None y.lines) (all_first (LineFault w b) (found_in w b) (λ n p. ⊥) None y.lines (λ l m. found_first w b l (within placed l m)) (λ n p h. h))

          pub line_due : (f : Fault) → found_each (found_in w b) None y.lines ≡ Some f → First (TableFault y w b) f.number f.word
          line_due x q =
              let s : First Lines x.number x.word = rw q at lines_first in
              let (l, m, (f, t)) = s.due in
              record { due = row l m f t; before = λ i k o h. ⊎_elim (no_section i k) (s.before i k o) (stage4 g e i k h) }

          pub all_sound : found_each (found_in w b) None y.lines ≡ None → (n p : ℕ) → TableFault y w b n p → ⊥
          all_sound q n p h =
              let s : (n p : ℕ) → Lines n p → ⊥ = rw q at lines_first in
              ⊎_elim (no_section n p) (s n p) (stage4 g e n p h)

  -- ---- a bundle with which nothing is wrong
  no_late : AllFine y.header y.sections y.lines w b → (n p : ℕ) → Sections n p ⊎ Lines n p → ⊥
  unfolding InRows
  no_late h n p = ⊎_elim (λ s. true≢false (sym s.2.2 ∙ h.placed s.0 s.1)) (λ l. true≢false (sym l.2.1.3 ∙ h.right l.0 l.1 l.2.1.0 l.2.1.1))

  pub fine_sound : y.large ≡ false → not (eqb (word w 0) edition) ≡ false → all_fine y.header y.sections y.lines w b ≡ true → (n p : ℕ) → TableFault y w b n p → ⊥
  fine_sound g e h n p f = no_late ((fine_stated y.header y.sections y.lines w b).0 h) n p (stage4 g e n p f)

  -- it is one that the tables know no fault of from 4 on
  table_fine : (all_fine y.header y.sections y.lines w b ≡ true) ↔ ((n p : ℕ) → 4 ≤ n → TableFault y w b n p → ⊥)
  unfolding InRows
  table_fine = (λ h n p l f. late ((fine_stated y.header y.sections y.lines w b).0 h) n p l f, λ h. (fine_stated y.header y.sections y.lines w b).1 (record { placed = placed_of h; right = right_of h })) where
    late : AllFine y.header y.sections y.lines w b → (n p : ℕ) → 4 ≤ n → TableFault y w b n p → ⊥
    late h n p l (size e k t) = omega arith
    late h n p l (other e k t) = omega arith
    late h n p l (section s m e k t) = no_late h n p (inl (s, m, (e, k, t)))
    late h n p l (row x m e t) = no_late h n p (inr (x, m, (e, t)))

    placed_of : ((n p : ℕ) → 4 ≤ n → TableFault y w b n p → ⊥) → (s : Section) → Memᴰ s y.sections → misplaced y.header w s ≡ false
    placed_of h s m = go (misplaced y.header w s) refl where
      go : (t : Bool) → misplaced y.header w s ≡ t → t ≡ false
      go true e = absurd (h 4 s.count (omega arith) (section s m refl refl e))
      go false e = refl

    right_of : ((n p : ℕ) → 4 ≤ n → TableFault y w b n p → ⊥) → (l : Line) → Memᴰ l y.lines → (i : ℕ) → i < (rows_of w l.block).count → wrong l.test w b (row_at (rows_of w l.block) i) l.word ≡ false
    right_of h l m i k = go (wrong l.test w b (row_at (rows_of w l.block) i) l.word) refl where
      go : (t : Bool) → wrong l.test w b (row_at (rows_of w l.block) i) l.word ≡ t → t ≡ false
      go true e = absurd (h l.number (row_at (rows_of w l.block) i + l.word) (omega (arith, from5 l m)) (row l m refl (i, k, refl, e)))
      go false e = refl

-- ---- any two answers that the faults allow are equal
three : (a b : ℕ) → (a < b) ⊎ ((a ≡ b) ⊎ (b < a))
three a b = elim (dec_lt a b) [ yes l ↦ inl l | no n ↦ elim (dec_lt b a) [ yes g ↦ inr (inr g) | no m ↦ inr (inl (omega arith)) ] ]

-- a bundle is told from its number, a word from a place's first value
same_bundle : (i j : Bundle) → bundle_number i ≡ bundle_number j → i ≡ j
same_bundle Chain Chain e = refl
same_bundle Chain Policy e = absurd (omega arith)
same_bundle Policy Chain e = absurd (omega arith)
same_bundle Policy Policy e = refl

is_word : (q : Place) → place_kind q ≡ 1 → q ≡ Word (place_first q)
is_word Nothing e = absurd (omega arith)
is_word (Word p) e = refl
is_word (Certificate i) e = absurd (omega arith)
is_word (Pair i j) e = absurd (omega arith)

abbrev pack : ℕ → Bundle → Place → Refusal
pack n i p = record { number = n; bundle = i; place = p }

same_refusal : {r s : Refusal} → r.number ≡ s.number → r.bundle ≡ s.bundle → r.place ≡ s.place → r ≡ s
same_refusal {r} {s} e f g = parts r.number s.number r.bundle s.bundle r.place s.place e f g where
  parts : (n m : ℕ) (i j : Bundle) (p q : Place) → n ≡ m → i ≡ j → p ≡ q → pack n i p ≡ pack m j q
  parts n m i j p q e f g = rw (e, f, g) refl

module _ (F : ℕ → ℕ → Type 0) (k : Bundle) where
  same_first : (n p m q : ℕ) → First F n p → First F m q → (n ≡ m) × (p ≡ q)
  same_first n p m q a b =
      ⊎_elim (λ l. absurd (b.before n p (inl l) a.due))
      (⊎_elim
      (λ e. ⊎_elim (λ l. absurd (b.before n p (inr (e, l)) a.due)) (⊎_elim (λ d. (e, d)) (λ l. absurd (a.before m q (inr (sym e, l)) b.due))) (three p q))
      (λ l. absurd (a.before m q (inl l) b.due)))
      (three n m)

  pub one_verdict : (r s : Checked) → Verdict F k r → Verdict F k s → r ≡ s
  one_verdict (Ok x) (Ok y) a b = refl
  one_verdict (Ok x) (Err s) a b = absurd (a s.number (place_first s.place) b.2.due)
  one_verdict (Err r) (Ok y) a b = absurd (b r.number (place_first r.place) a.2.due)
  one_verdict (Err r) (Err s) a b =
      let (e, d) = same_first r.number (place_first r.place) s.number (place_first s.place) a.2 b.2 in
      let f = same_bundle r.bundle s.bundle (a.0 ∙ sym b.0) in
      let g : r.place ≡ s.place = is_word r.place a.1 ∙ ap Word d ∙ sym (is_word s.place b.1) in
      ap Err (same_refusal e f g)

-- ---- the answers of a check, as the code gives them
err_ok : (c : Checked) (r : Refusal) → c ≡ Err r → c ≡ Ok tt → ⊥
err_ok c r e d = true≢false (sym (ap is_err e) ∙ ap is_err d)

-- the same faults have the same first
verdict_same : (F G : ℕ → ℕ → Type 0) → ((n p : ℕ) → F n p → G n p) → ((n p : ℕ) → G n p → F n p) → (k : Bundle) (r : Checked) → Verdict F k r → Verdict G k r
verdict_same F G t u k (Ok x) v = λ n p g. v n p (u n p g)
verdict_same F G t u k (Err r) v = (v.0, v.1, record { due = t r.number (place_first r.place) v.2.due; before = λ m p o g. v.2.before m p o (u m p g) })

-- nothing is wrong with a bundle exactly if no refusal from 4 on fits it
pub fine_faultless : {F : ℕ → ℕ → Type 0} {y : Layout} {w b : List ℕ} → Knows F y w b → (all_fine y.header y.sections y.lines w b ≡ true) ↔ ((n p : ℕ) → 4 ≤ n → F n p → ⊥)
fine_faultless {y = y} {w = w} {b = b} x =
    let t = table_fine y w b x.from5 in
    (λ h n p l f. t.0 h n p l (x.tabled n p f), λ h. t.1 (λ n p l f. h n p l (x.stated n p f)))

module _ {F : ℕ → ℕ → Type 0} {y : Layout} {w b : List ℕ} (x : Knows F y w b) (k : Bundle) {g : Bool} (large : g ≡ y.large) where
  -- what the tables find is said of the faults that they know
  known : (r : Checked) → Verdict (TableFault y w b) k r → Verdict F k r
  known = verdict_same (TableFault y w b) F x.stated x.tabled k

  answered : (n p : ℕ) {r : Checked} → First (TableFault y w b) n p → r ≡ refused k n p → Verdict F k r
  answered n p f e = rw e (known (refused k n p) (refl, refl, f))

  -- too large, or of another edition
  module _ {h : Option Fault} (head : h ≡ first_word_fault w g) {r : Checked} (answer : r ≡ answer_of k h) where
    first : r ≡ answer_of k (first_word_fault w g)
    first = answer ∙ ap (answer_of k) head

    first_answer : (e : Refusal) → r ≡ Err e → Verdict F k r
    first_answer e h = go g (not (eqb (word w 0) edition)) refl refl where
      go : (t o : Bool) → g ≡ t → not (eqb (word w 0) edition) ≡ o → Verdict F k r
      go true o u v = answered 2 0 (too_large y w b x.from5 (sym large ∙ u)) (first ∙ rw u refl)
      go false true u v = answered 3 0 (other_edition_law y w b x.from5 (sym large ∙ u) v) (first ∙ rw (u, v) refl)
      go false false u v = absurd (err_ok r _ h (first ∙ rw (u, v) refl))

    -- `?` hands on the same refusal
    pub answer_first : {e : Refusal} {a : Checked} → r ≡ Err e → a ≡ Err e → Verdict F k a
    answer_first {e} h d = rw (d ∙ sym h) (first_answer e h)

    module _ (ok : r ≡ Ok tt) where
      fits : y.large ≡ false
      fits = sym large ∙ go g refl where
        go : (t : Bool) → g ≡ t → t ≡ false
        go true u = absurd (err_ok r (pack 2 k (Word 0)) (first ∙ rw u refl) ok)
        go false u = refl

      this_edition : not (eqb (word w 0) edition) ≡ false
      this_edition = go (not (eqb (word w 0) edition)) refl where
        go : (t : Bool) → not (eqb (word w 0) edition) ≡ t → t ≡ false
        go true v = absurd (err_ok r (pack 3 k (Word 0)) (first ∙ rw (large, fits, v) refl) ok)
        go false v = refl

      pub answer_fine : {f : Bool} → f ≡ all_fine y.header y.sections y.lines w b → f ≡ true → Verdict F k (Ok tt)
      answer_fine t q = known (Ok tt) (fine_sound y w b x.from5 fits this_edition (sym t ∙ q))

      module _ {s : Option Fault} (sections : s ≡ found_each (found_section y.header w) None y.sections) {c : Checked} (placed : c ≡ answer_of k s) where
        section_answer : (e : Refusal) → c ≡ Err e → Verdict F k c
        section_answer e h = go s refl where
          go : (t : Option Fault) → s ≡ t → Verdict F k c
          go None u = absurd (err_ok c _ h (placed ∙ rw u refl))
          go (Some f) u = answered f.number f.word (misplaced_first y w b x.from5 fits this_edition f (sym sections ∙ u)) (placed ∙ rw u refl)

        pub answer_section : {e : Refusal} {a : Checked} → c ≡ Err e → a ≡ Err e → Verdict F k a
        answer_section {e} h d = rw (d ∙ sym h) (section_answer e h)

        pub answer_line : c ≡ Ok tt → {f : Option Fault} → f ≡ found_each (found_in w b) None y.lines → {a : Checked} → a ≡ answer_of k f → Verdict F k a
        answer_line h {f} lines {a} answer = go s refl f refl where
          go : (t : Option Fault) → s ≡ t → (g : Option Fault) → f ≡ g → Verdict F k a
          go (Some f) u g v = absurd (err_ok c (pack f.number k (Word f.word)) (placed ∙ rw u refl) h)
          go None u None v = rw (answer, v) (known (Ok tt) (all_sound y w b x.from5 fits this_edition (sym sections ∙ u) x.within (sym lines ∙ v)))
          go None u (Some g) v = answered g.number g.word (line_due y w b x.from5 fits this_edition (sym sections ∙ u) x.within g (sym lines ∙ v)) (answer ∙ rw v refl)
