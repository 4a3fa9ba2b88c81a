-- What the words and the bytes of a bundle hold (document 01, "Bundles"). Every definition is total: past the end a word is 0, and a part is cut off. Assumes nothing.
use Rattle.std.specs.Prelude.{ℕ, ◌+◌, ◌*◌, min, List, get_or, take, drop}
use Rattle.laws.specs.Lists.{rows}
use Rattle.table.specs.declared.Section.{Section}
use Rattle.table.specs.declared.Two.{Two}
use Rattle.table.specs.declared.Range.{Range}

-- the word at a place, counted from the bundle's first word
unfoldable pub word : List ℕ → ℕ → ℕ
word w i = get_or w i 0

-- no slice has so many words: they would take 2^63 bytes
abbrev pub far : ℕ
far = 1152921504606846976

-- the `len` bytes from `start` on
unfoldable pub part : List ℕ → ℕ → ℕ → List ℕ
part b start len = take len (drop start b)

-- how many rows a section has: a word of the header says it
unfoldable pub count_of : List ℕ → Section → ℕ
count_of w s = word w s.count

-- where its first row begins: the header's next word says it
unfoldable pub offset_of : List ℕ → Section → ℕ
offset_of w s = word w (s.count + 1)

-- word j of row n
unfoldable pub field_of : List ℕ → Section → ℕ → ℕ → ℕ
field_of w s n j = word w (offset_of w s + s.size * n + j)

-- words j and j + 1 of row n
unfoldable pub two_fields_of : List ℕ → Section → ℕ → ℕ → Two
two_fields_of w s n j = record { first = field_of w s n j; second = field_of w s n (j + 1) }

-- S, the strings, in both bundles: the count is word 1 of the header, a row is start and length in the bytes
abbrev pub strings : Section
strings = record { count = 1; size = 2 }

-- string n
unfoldable pub string_of : List ℕ → List ℕ → ℕ → List ℕ
string_of w b n = part b (field_of w strings n 0) (field_of w strings n 1)

-- the `n` rows from `first` on, as far as a section of `count` rows has them
unfoldable pub range_of : ℕ → ℕ → ℕ → Range
range_of first n count = record { from = first; to = min (first + n) count }

-- the rows of a range, each read by g
abbrev pub over : {A : Type 0} → (ℕ → A) → Range → List A
over g r = rows g r.from r.to
