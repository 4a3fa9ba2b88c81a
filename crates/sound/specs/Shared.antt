-- The refusals that both bundles share (document 01, "What the judge says"): n is the number, p the word that is named. Assumes nothing.
use Rattle.std.specs.Prelude.{ℕ, ◌+◌, ◌*◌, ◌<◌, ◌≡◌, length}
use mathlib.Core.List.{List, Memᴰ}
use Rattle.table.specs.Table.{word, count_of, offset_of, strings}
use Rattle.table.specs.declared.Section.{Section}
use Rattle.sound.specs.Limits.{most_words, most_bytes, edition}
use Rattle.sound.specs.Where.{RowWord}

-- of a bundle with so many words in its header, and with these sections
pub data SharedFault (header : ℕ) (sections : List Section) (w b : List ℕ) (n p : ℕ) : Type 0 where
  -- ---- 2, at word 0
  -- words fewer than the header
  header_short : n ≡ 2 → p ≡ 0 → length w < header → SharedFault header sections w b n p
  -- too many words, too many bytes
  many_words : n ≡ 2 → p ≡ 0 → most_words < length w → SharedFault header sections w b n p
  many_bytes : n ≡ 2 → p ≡ 0 → most_bytes < length b → SharedFault header sections w b n p
  -- ---- 3, at word 0
  other_edition : n ≡ 3 → p ≡ 0 → (word w 0 ≡ edition → ⊥) → SharedFault header sections w b n p
  -- ---- 4, at the word of the section's count, of an empty section too
  -- it begins in the header
  begins_early : (s : Section) → Memᴰ s sections → n ≡ 4 → p ≡ s.count → offset_of w s < header → SharedFault header sections w b n p
  -- it ends past the words
  ends_late : (s : Section) → Memᴰ s sections → n ≡ 4 → p ≡ s.count → length w < offset_of w s + s.size * count_of w s → SharedFault header sections w b n p
  -- ---- 5, at the word of its start: a string ends outside the bytes
  string_out : n ≡ 5 → RowWord w strings 0 p → length b < word w p + word w (p + 1) → SharedFault header sections w b n p
