-- What the tests of the code's tables mean: a line of a table, and where and what is wrong, in document 01's words. Assumes nothing.
use Prim.Native.Nat.{ℕ, ◌+◌, ◌-◌, ◌*◌, ◌<◌, zero-le, min}
use native.Mathlib.Omega.{arith}
use mathlib.Core.Path.{◌≡◌, refl, sym, ap, ◌∙◌}
use mathlib.Core.Logic.{◌⊎◌, inl, inr, ⊎_elim, ◌↔◌}
use mathlib.Core.List.{List}
use mathlib.Core.Bool.{Bool, true, false, not}
use lib.Dec.{eqb, ltb}
use lib.ListN.{length}
use borrow.Author.Tests.{ltb-true, ltb-false, leb-true, eqb-true, eqb-false, not-true, not-false, lt-ltb, le-leb, eq-eqb, ne_eqb}
use Rattle.laws.specs.Lists.{pick}
use Rattle.laws.proofs.Meaning.{any_index, index_any}
use Rattle.laws.proofs.Tests.{and_means, or_means}
use Rattle.ascii.specs.Bytes.{is_high}
use Rattle.table.specs.Table.{word, count_of, offset_of, field_of, string_of, range_of}
use Rattle.table.specs.declared.Section.{Section}
use Rattle.model.specs.Sections.{rdns, names, certs, entries}
use Rattle.model.specs.Decode.{rows_in, list_word}
use Rattle.row_tests.specs.Wrong.{no_string, no_optional, no_range, over, there, high_string, string_out, name_out, some_part, extensions_wrong, wrong}
use Rattle.row_tests.specs.declared.Test.{Test}
use Rattle.row_tests.specs.declared.Test.TheVariants.{StringOut, NumberOut, OptionalOut, RangeOut, NameOut, PartNumber, PartOptional, PartRange, Over, PartOver, Extensions, NumberHigh, DnsHigh, OptionalHigh, NotZero}
use Rattle.search.specs.declared.Block.TheVariants.{Header, All, Listed}
use Rattle.search.specs.declared.Rows.{Rows}
use Rattle.search.specs.Rows.{no_rows, rows_of, row_at}
use Rattle.sound.specs.Where.{RowWord, CertWord, PartWord, NameWord, EntryWord, NoString, NoOptional, NoRange, There, High}
use Rattle.sound.specs.ChainFault.{MarkWord, aki, ski, eku, bc, ku, san, nc, policies, aia}
use Rattle.sound.proofs.Tables.{InRows}

-- ---- what is asked of a word
module _ (w b : List ℕ) (p : ℕ) where
  pub there_means : (there w p ≡ true) ↔ There w p
  unfolding there
  there_means = (λ e. eqb-false (word w p) 0 (not-true _ e), λ h. ap not (ne_eqb (word w p) 0 h))

  no_string_means : (no_string w p ≡ true) ↔ NoString w p
  unfolding no_string NoString
  no_string_means = (leb-true _ _, le-leb _ _)

  no_optional_means : (no_optional w p ≡ true) ↔ NoOptional w p
  unfolding no_optional NoOptional
  no_optional_means = (ltb-true _ _, lt-ltb _ _)

  no_range_means : (s : Section) → (no_range w s p ≡ true) ↔ NoRange w s p
  unfolding no_range NoRange
  no_range_means s = (ltb-true _ _, lt-ltb _ _)

  over_means : (k : ℕ) → (over w k p ≡ true) ↔ (k < word w p)
  unfolding over
  over_means k = (ltb-true _ _, lt-ltb _ _)

  string_out_means : (string_out w b p ≡ true) ↔ (length b < word w p + word w (p + 1))
  unfolding string_out
  string_out_means = (ltb-true _ _, lt-ltb _ _)

high_means : (w b : List ℕ) (n : ℕ) → (high_string w b n ≡ true) ↔ High w b n
unfolding high_string High
high_means w b n = (
  λ h. let (i, l, m, e) = any_index 0 is_high (string_of w b n) h in (i, m, leb-true 128 _ e),
  λ x. index_any 0 is_high (string_of w b n) (x.0, zero-le, x.1, le-leb 128 _ x.2),
)

-- ---- where it is asked
module _ (w b : List ℕ) (j : ℕ) (t : Test) (F : ℕ → Type 0) (means : (q : ℕ) → (wrong t w b q j ≡ true) ↔ F (q + j)) (p : ℕ) where
  -- in the header
  header_line : InRows w b Header j t p ↔ ((p ≡ j) × F p)
  unfolding InRows rows_of
  header_line = (
    λ x. (omega (arith, x.2), rw x.2 ((means _).0 x.3)),
    λ x. let e : p ≡ 0 + 0 * 0 + j = omega (arith, x.0) in (0, omega arith, e, (means _).1 (rw e at x.1)),
  )

  -- in each row of a section
  row_line : (s : Section) → InRows w b (All s) j t p ↔ (RowWord w s j p × F p)
  unfolding InRows rows_of RowWord
  row_line s = (
    λ x. ((x.0, (x.1, x.2)), rw x.2 ((means _).0 x.3)),
    λ x. (x.0.0, x.0.1.0, x.0.1.1, (means _).1 (rw x.0.1.1 at x.1)),
  )

-- in each row of C that has a part
module _ (w b : List ℕ) (m j : ℕ) (t : Test) (F : ℕ → Type 0) (means : (q : ℕ) → (wrong t w b q j ≡ true) ↔ (There w (q + m) × F (q + j))) (p : ℕ) where
  part_line : InRows w b (All certs) j t p ↔ (PartWord w m j p × F p)
  unfolding InRows rows_of PartWord field_of
  part_line = (
    λ x. let y = (means _).0 x.3 in ((x.0, (x.1, x.2), y.0), rw x.2 y.1),
    λ x. (x.0.0, x.0.1.0, x.0.1.1, (means _).1 (x.0.2, rw x.0.1.1 at x.1)),
  )

-- ---- the lines of the tables, by their tests
module _ (w b : List ℕ) (p : ℕ) where
  pub host_out_law : (j : ℕ) → InRows w b Header j OptionalOut p ↔ ((p ≡ j) × NoOptional w p)
  host_out_law j = header_line w b j OptionalOut (NoOptional w) (λ q. no_optional_means w b (q + j)) p

  pub list_out_law : (s : Section) (j : ℕ) → InRows w b Header j (RangeOut s) p ↔ ((p ≡ j) × NoRange w s p)
  list_out_law s j = header_line w b j (RangeOut s) (NoRange w s) (λ q. no_range_means w b (q + j) s) p

  pub purpose_other : (j : ℕ) → InRows w b Header j NotZero p ↔ ((p ≡ j) × There w p)
  purpose_other j = header_line w b j NotZero (There w) (λ q. there_means w b (q + j)) p

  pub host_high_law : (j : ℕ) → InRows w b Header j OptionalHigh p ↔ ((p ≡ j) × (There w p × High w b (word w p - 1)))
  host_high_law j = header_line w b j OptionalHigh (λ p. There w p × High w b (word w p - 1)) (λ q. and_means (there_means w b (q + j)) (high_means w b (word w (q + j) - 1))) p

  module _ (s : Section) (j : ℕ) where
    pub string_out_law : InRows w b (All s) j StringOut p ↔ (RowWord w s j p × (length b < word w p + word w (p + 1)))
    string_out_law = row_line w b j StringOut (λ p. length b < word w p + word w (p + 1)) (λ q. string_out_means w b (q + j)) p s

    pub number_out : InRows w b (All s) j NumberOut p ↔ (RowWord w s j p × NoString w p)
    number_out = row_line w b j NumberOut (NoString w) (λ q. no_string_means w b (q + j)) p s

    pub optional_out : InRows w b (All s) j OptionalOut p ↔ (RowWord w s j p × NoOptional w p)
    optional_out = row_line w b j OptionalOut (NoOptional w) (λ q. no_optional_means w b (q + j)) p s

    pub range_out : (r : Section) → InRows w b (All s) j (RangeOut r) p ↔ (RowWord w s j p × NoRange w r p)
    range_out r = row_line w b j (RangeOut r) (NoRange w r) (λ q. no_range_means w b (q + j) r) p s

    pub code_over : (k : ℕ) → InRows w b (All s) j (Over k) p ↔ (RowWord w s j p × (k < word w p))
    code_over k = row_line w b j (Over k) (λ p. k < word w p) (λ q. over_means w b (q + j) k) p s

    pub text_high : InRows w b (All s) j NumberHigh p ↔ (RowWord w s j p × High w b (word w p))
    text_high = row_line w b j NumberHigh (λ p. High w b (word w p)) (λ q. high_means w b (word w (q + j))) p s

  module _ (m j : ℕ) where
    pub part_number_out : InRows w b (All certs) j (PartNumber m) p ↔ (PartWord w m j p × NoString w p)
    part_number_out = part_line w b m j (PartNumber m) (NoString w) (λ q. and_means (there_means w b (q + m)) (no_string_means w b (q + j))) p

    pub part_optional_out : InRows w b (All certs) j (PartOptional m) p ↔ (PartWord w m j p × NoOptional w p)
    part_optional_out = part_line w b m j (PartOptional m) (NoOptional w) (λ q. and_means (there_means w b (q + m)) (no_optional_means w b (q + j))) p

    pub part_range_out : (r : Section) → InRows w b (All certs) j (PartRange m r) p ↔ (PartWord w m j p × NoRange w r p)
    part_range_out r = part_line w b m j (PartRange m r) (NoRange w r) (λ q. and_means (there_means w b (q + m)) (no_range_means w b (q + j) r)) p

    pub part_code_over : (k : ℕ) → InRows w b (All certs) j (PartOver m k) p ↔ (PartWord w m j p × (k < word w p))
    part_code_over k = part_line w b m j (PartOver m k) (λ p. k < word w p) (λ q. and_means (there_means w b (q + m)) (over_means w b (q + j) k)) p

-- ---- names
module _ (w b : List ℕ) where
  kind_means : (i k : ℕ) → (eqb (word w (offset_of w names + names.size * i)) k ≡ true) ↔ (field_of w names i 0 ≡ k)
  unfolding field_of
  kind_means i k =
      let q = offset_of w names + names.size * i in
      let z : q + 0 ≡ q = omega arith in
      (λ h. ap (word w) z ∙ eqb-true _ k h, λ h. eq-eqb _ k (sym (ap (word w) z) ∙ h))

  module _ (p : ℕ) where
    pub dns_high_law : InRows w b (All names) 1 DnsHigh p ↔ (NameWord w 0 1 p × High w b (word w p))
    unfolding InRows rows_of NameWord
    dns_high_law = (
      λ x. let y = (and_means (kind_means x.0 0) (high_means w b _)).0 x.3 in ((x.0, (x.1, x.2), y.0), rw x.2 y.1),
      λ x. (x.0.0, x.0.1.0, x.0.1.1, (and_means (kind_means x.0.0 0) (high_means w b _)).1 (x.0.2, rw x.0.1.1 at x.1)),
    )

    -- what is wrong with the name in row i
    module _ (i : ℕ) (e : p ≡ offset_of w names + names.size * i + 1) where
      wrong_name : (name_out w (offset_of w names + names.size * i) ≡ true) ↔ ((((field_of w names i 0 ≡ 0) ⊎ (field_of w names i 0 ≡ 2)) × NoString w p) ⊎ ((field_of w names i 0 ≡ 1) × NoRange w rdns p))
      unfolding name_out
      wrong_name = rw e (or_means (and_means (or_means (kind_means i 0) (kind_means i 2)) (no_string_means w b _)) (and_means (kind_means i 1) (no_range_means w b _ rdns)))

    pub name_out_law : InRows w b (All names) 1 NameOut p ↔ ((NameWord w 0 1 p × NoString w p) ⊎ ((NameWord w 1 1 p × NoRange w rdns p) ⊎ (NameWord w 2 1 p × NoString w p)))
    unfolding InRows rows_of NameWord
    name_out_law = (
      λ x. ⊎_elim
          (λ y. ⊎_elim (λ k. inl ((x.0, (x.1, x.2), k), y.1)) (λ k. inr (inr ((x.0, (x.1, x.2), k), y.1))) y.0)
          (λ y. inr (inl ((x.0, (x.1, x.2), y.0), y.1)))
          ((wrong_name x.0 x.2).0 x.3),
      ⊎_elim
          (λ x. (x.0.0, x.0.1.0, x.0.1.1, (wrong_name x.0.0 x.0.1.1).1 (inl (inl x.0.2, x.1))))
          (⊎_elim
          (λ x. (x.0.0, x.0.1.0, x.0.1.1, (wrong_name x.0.0 x.0.1.1).1 (inr (x.0.2, x.1))))
          (λ x. (x.0.0, x.0.1.0, x.0.1.1, (wrong_name x.0.0 x.0.1.1).1 (inl (inr x.0.2, x.1))))),
    )

-- ---- word 40
module _ (w b : List ℕ) (q : ℕ) where
  -- one of the nine marks is there
  abbrev Marks : Type 0
  Marks = (((((((There w (q + 15) ⊎ There w (q + 19)) ⊎ There w (q + 21)) ⊎ There w (q + 24)) ⊎ There w (q + 28)) ⊎ There w (q + 30)) ⊎ There w (q + 33)) ⊎ There w (q + 38)) ⊎ There w (q + 39)

  parts_mean : (some_part w q ≡ true) ↔ Marks
  unfolding some_part
  parts_mean =
      let t : (m : ℕ) → (there w (q + m) ≡ true) ↔ There w (q + m) = λ m. there_means w b (q + m) in
      or_means (or_means (or_means (or_means (or_means (or_means (or_means (or_means (t 15) (t 19)) (t 21)) (t 24)) (t 28)) (t 30)) (t 33)) (t 38)) (t 39)

  abbrev Marked : Type 0
  Marked = (m : ℕ) × MarkWord m × There w (q + m)

  mark_of : Marks → Marked
  mark_of =
      ⊎_elim (⊎_elim (⊎_elim (⊎_elim (⊎_elim (⊎_elim (⊎_elim (⊎_elim
      (λ h. (15, aki refl, h))
      (λ h. (19, ski refl, h)))
      (λ h. (21, eku refl, h)))
      (λ h. (24, bc refl, h)))
      (λ h. (28, ku refl, h)))
      (λ h. (30, san refl, h)))
      (λ h. (33, nc refl, h)))
      (λ h. (38, policies refl, h)))
      (λ h. (39, aia refl, h))

  of_mark : (m : ℕ) → MarkWord m → There w (q + m) → Marks
  of_mark m (aki e) h = inl (inl (inl (inl (inl (inl (inl (inl (rw e at h))))))))
  of_mark m (ski e) h = inl (inl (inl (inl (inl (inl (inl (inr (rw e at h))))))))
  of_mark m (eku e) h = inl (inl (inl (inl (inl (inl (inr (rw e at h)))))))
  of_mark m (bc e) h = inl (inl (inl (inl (inl (inr (rw e at h))))))
  of_mark m (ku e) h = inl (inl (inl (inl (inr (rw e at h)))))
  of_mark m (san e) h = inl (inl (inl (inr (rw e at h))))
  of_mark m (nc e) h = inl (inl (inr (rw e at h)))
  of_mark m (policies e) h = inl (inr (rw e at h))
  of_mark m (aia e) h = inr (rw e at h)

  some_part_means : (some_part w q ≡ true) ↔ Marked
  some_part_means = (λ h. mark_of (parts_mean.0 h), λ x. parts_mean.1 (of_mark x.0 x.1 x.2))

absent_means : (w : List ℕ) (q : ℕ) → (not (there w q) ≡ true) ↔ (word w q ≡ 0)
unfolding there
absent_means w q = (λ h. eqb-true (word w q) 0 (not-false _ (not-true _ h)), λ e. rw (eq-eqb (word w q) 0 e) refl)

module _ (w b : List ℕ) (p : ℕ) where
  -- what is wrong with word 40 of row i
  module _ (i : ℕ) (e : p ≡ offset_of w certs + certs.size * i + 40) where
    wrong_extensions : (extensions_wrong w (offset_of w certs + certs.size * i) ≡ true) ↔ ((1 < word w p) ⊎ ((word w p ≡ 0) × ((m : ℕ) × MarkWord m × There w (offset_of w certs + certs.size * i + m))))
    unfolding extensions_wrong
    wrong_extensions = rw e (or_means (over_means w b _ 1) (and_means (absent_means w _) (some_part_means w b _)))

  pub extensions_wrong_law : InRows w b (All certs) 40 Extensions p ↔ ((CertWord w 40 p × (1 < word w p)) ⊎ ((m : ℕ) × MarkWord m × PartWord w m 40 p × (word w p ≡ 0)))
  unfolding InRows rows_of RowWord PartWord field_of
  extensions_wrong_law = (
    λ x. ⊎_elim
        (λ h. inl ((x.0, (x.1, x.2)), h))
        (λ h. let (m, k, t) = h.1 in inr (m, k, (x.0, (x.1, x.2), t), h.0))
        ((wrong_extensions x.0 x.2).0 x.3),
    ⊎_elim
        (λ x. (x.0.0, x.0.1.0, x.0.1.1, (wrong_extensions x.0.0 x.0.1.1).1 (inl x.1)))
        (λ x. (x.2.0, x.2.1.0, x.2.1.1, (wrong_extensions x.2.0 x.2.1.1).1 (inr (x.3, (x.0, x.1, x.2.2))))),
  )

-- ---- the entries of a list
module _ (w b : List ℕ) (k : ℕ) (p : ℕ) where
  abbrev first : ℕ
  first = word w (list_word k)

  abbrev to : ℕ
  to = min (first + word w (list_word k + 1)) (count_of w entries)

  abbrev listed : Bool → Rows
  listed t = pick t (record { at = offset_of w entries + first; size = 1; count = to - first }) no_rows

  by_range : (t : Bool) → ltb first to ≡ t → ((i : ℕ) × (i < (listed t).count) × (p ≡ row_at (listed t) i + 0) × (wrong NumberHigh w b (row_at (listed t) i) 0 ≡ true)) ↔ (EntryWord w k p × High w b (word w p))
  unfolding EntryWord
  by_range true h = (
    λ x. ((first + x.0, (omega (arith, x.1), omega (arith, x.2)), omega arith, omega (arith, x.1)), rw x.2 ((high_means w b _).0 x.3)),
    λ x.
        let e : p ≡ offset_of w entries + first + 1 * (x.0.0 - first) + 0 = omega (arith, x.0.1.1, x.0.2) in
        (x.0.0 - first, omega (arith, x.0.1.0, x.0.2, x.0.3), e, (high_means w b _).1 (rw e at x.1)),
  )
  by_range false h = (λ x. absurd (omega (arith, x.1)), λ x. absurd (omega (arith, ltb-false first to h, x.0.1.0, x.0.2, x.0.3)))

  pub entry_high : InRows w b (Listed (list_word k)) 0 NumberHigh p ↔ (EntryWord w k p × High w b (word w p))
  unfolding InRows rows_of rows_in range_of
  entry_high = by_range (ltb first to) refl
