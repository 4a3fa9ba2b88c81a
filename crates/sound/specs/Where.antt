-- Where a word stands, and what can be wrong with it (document 01, "Bundles" and "What the judge says"). A word past the end is 0, so every line has a meaning for every bundle. Assumes nothing.
use Rattle.std.specs.Prelude.{ℕ, ◌+◌, ◌*◌, ◌<◌, ◌≤◌, ◌≡◌, List, length, get_or}
use Rattle.table.specs.Table.{word, count_of, offset_of, field_of, strings, string_of}
use Rattle.table.specs.declared.Section.{Section}
use Rattle.model.specs.Sections.{names, certs, entries}
use Rattle.model.specs.Decode.{list_word}

-- ---- where
-- p is word j of row i
abbrev pub InRow : List ℕ → Section → ℕ → ℕ → ℕ → Type 0
InRow w s j p i = (i < count_of w s) × (p ≡ offset_of w s + s.size * i + j)

-- p is word j of some row of a section, used or not
unfoldable pub RowWord : List ℕ → Section → ℕ → ℕ → Type 0
RowWord w s j p = (i : ℕ) × InRow w s j p i

-- p is word j of some certificate
abbrev pub CertWord : List ℕ → ℕ → ℕ → Type 0
CertWord w = RowWord w certs

-- p is word j of a certificate with the part that word m marks: word m isn't 0
unfoldable pub PartWord : List ℕ → ℕ → ℕ → ℕ → Type 0
PartWord w m j p = (i : ℕ) × InRow w certs j p i × (field_of w certs i m ≡ 0 → ⊥)

-- p is word j of a name of kind k
unfoldable pub NameWord : List ℕ → ℕ → ℕ → ℕ → Type 0
NameWord w k j p = (i : ℕ) × InRow w names j p i × (field_of w names i 0 ≡ k)

-- p is the word of an entry in L that list k holds
unfoldable pub EntryWord : List ℕ → ℕ → ℕ → Type 0
EntryWord w k p = (i : ℕ) × InRow w entries 0 p i × (word w (list_word k) ≤ i) × (i < word w (list_word k) + word w (list_word k + 1))

-- ---- what
-- word p is no string number
unfoldable pub NoString : List ℕ → ℕ → Type 0
NoString w p = count_of w strings ≤ word w p

-- word p is neither 0 nor a string number plus 1
unfoldable pub NoOptional : List ℕ → ℕ → Type 0
NoOptional w p = count_of w strings < word w p

-- words p and p + 1, first and count, are no range of the section
unfoldable pub NoRange : List ℕ → Section → ℕ → Type 0
NoRange w s p = count_of w s < word w p + word w (p + 1)

-- word p is not 0
abbrev pub There : List ℕ → ℕ → Type 0
There w p = word w p ≡ 0 → ⊥

-- string n has a byte over 127
unfoldable pub High : List ℕ → List ℕ → ℕ → Type 0
High w b n = (i : ℕ) × (i < length (string_of w b n)) × (127 < get_or (string_of w b n) i 0)
