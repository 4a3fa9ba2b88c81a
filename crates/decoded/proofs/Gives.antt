-- What a sound bundle gives to its readers, since no refusal fits it: what both bundles share, and the laws by which Fields says it of each field. Assumes nothing.
use Prim.Native.Nat.{ℕ, ◌+◌, ◌*◌, ◌<◌, ◌≤◌}
use native.Mathlib.Omega.{arith}
use native.Mathlib.Decide.{dec_lt}
use mathlib.Core.Path.{◌≡◌, refl}
use mathlib.Core.List.{List, Memᴰ}
use lib.ListN.{length, get_or}
use Rattle.table.specs.Table.{word, count_of, offset_of, field_of, strings, string_of}
use Rattle.table.specs.declared.Section.{Section}
use Rattle.model.specs.Sections.{names, certs}
use Rattle.sound.specs.Limits.{most_words, most_bytes, edition}
use Rattle.sound.specs.Where.{RowWord, PartWord, NameWord, NoString, NoOptional, NoRange, High}
use Rattle.sound.specs.Shared.{SharedFault, header_short, many_words, many_bytes, other_edition, begins_early, ends_late}

-- ---- what it means that nothing is wrong with word p
-- a number that is not above another is at most that one
pub at_most : (a b : ℕ) → (a < b → ⊥) → b ≤ a
at_most a b h = elim (dec_lt a b) [ yes l ↦ absurd (h l) | no l ↦ omega arith ]

module _ (w : List ℕ) (p : ℕ) where
  -- it is a string's number
  pub string_number : (NoString w p → ⊥) → word w p < count_of w strings
  unfolding NoString
  string_number h = elim (dec_lt (word w p) (count_of w strings)) [ yes l ↦ l | no l ↦ absurd (h (omega arith)) ]

  -- it is 0 or a string's number plus 1
  pub optional_number : (NoOptional w p → ⊥) → word w p ≤ count_of w strings
  unfolding NoOptional
  optional_number h = at_most (count_of w strings) (word w p) h

  -- with the next word it is a range of its section
  pub range_lies : (s : Section) → (NoRange w s p → ⊥) → word w p + word w (p + 1) ≤ count_of w s
  unfolding NoRange
  range_lies s h = at_most (count_of w s) (word w p + word w (p + 1)) h

-- every byte of string n is ASCII
abbrev pub Ascii : List ℕ → List ℕ → ℕ → Type 0
Ascii w b n = (i : ℕ) → i < length (string_of w b n) → get_or (string_of w b n) i 0 ≤ 127

pub text_is_ascii : (w b : List ℕ) (n : ℕ) → (High w b n → ⊥) → Ascii w b n
unfolding High
text_is_ascii w b n h i k = at_most 127 (get_or (string_of w b n) i 0) (λ l. h (i, k, l))

-- ---- a bundle without a fault: nothing is wrong where a line of the refusals speaks of it
module _ (F : ℕ → ℕ → Type 0) (sound : (n p : ℕ) → F n p → ⊥) (w : List ℕ) {n : ℕ} (X : ℕ → Type 0) where
  -- in word j of row i of a section
  pub row_right : (s : Section) (j i : ℕ) → i < count_of w s → ((p : ℕ) → RowWord w s j p → X p → F n p) → X (offset_of w s + s.size * i + j) → ⊥
  unfolding RowWord
  row_right s j i h line x = sound n _ (line _ (i, (h, refl)) x)

  -- in word j of certificate i, if it has the part that word m marks
  pub part_right : (m j i : ℕ) → i < count_of w certs → (field_of w certs i m ≡ 0 → ⊥) → ((p : ℕ) → PartWord w m j p → X p → F n p) → X (offset_of w certs + certs.size * i + j) → ⊥
  unfolding PartWord
  part_right m j i h t line x = sound n _ (line _ (i, (h, refl), t) x)

  -- in word j of name i, if it is of kind k
  pub name_right : (k j i : ℕ) → i < count_of w names → field_of w names i 0 ≡ k → ((p : ℕ) → NameWord w k j p → X p → F n p) → X (offset_of w names + names.size * i + j) → ⊥
  unfolding NameWord
  name_right k j i h t line x = sound n _ (line _ (i, (h, refl), t) x)

-- ---- what holds of both bundles
module _ (header : ℕ) (sections : List Section) (w b : List ℕ) (sound : (n p : ℕ) → SharedFault header sections w b n p → ⊥) where
  -- the header is whole
  pub header_whole : header ≤ length w
  header_whole = at_most (length w) header (λ h. sound 2 0 (header_short refl refl h))

  -- there are not too many words or bytes
  pub few_words : length w ≤ most_words
  few_words = at_most most_words (length w) (λ h. sound 2 0 (many_words refl refl h))

  pub few_bytes : length b ≤ most_bytes
  few_bytes = at_most most_bytes (length b) (λ h. sound 2 0 (many_bytes refl refl h))

  -- it has the edition that is read
  pub of_edition : word w 0 ≡ edition
  of_edition = elim (dec_lt (word w 0) edition) [
    | yes l ↦ absurd (sound 3 0 (other_edition refl refl (λ e. omega arith)))
    | no l ↦ elim (dec_lt edition (word w 0)) [ yes g ↦ absurd (sound 3 0 (other_edition refl refl (λ e. omega arith))) | no g ↦ omega arith ]
  ]

  -- each section begins behind the header and ends within the words
  pub section_lies : (s : Section) → Memᴰ s sections → (header ≤ offset_of w s) × (offset_of w s + s.size * count_of w s ≤ length w)
  section_lies s m = (at_most (offset_of w s) header (λ h. sound 4 s.count (begins_early s m refl refl h)), at_most (length w) _ (λ h. sound 4 s.count (ends_late s m refl refl h)))
