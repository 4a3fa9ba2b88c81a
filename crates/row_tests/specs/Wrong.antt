-- What can be wrong with a word of a row, as tests. `sound` states the same with orders and equations. q is the word at which the row begins, j the word of the row that is asked.
-- A word past the end is 0, so every line has a meaning for every bundle. Assumes nothing.
use Rattle.std.specs.Prelude.{ℕ, ◌+◌, ◌-◌, List, Bool, not, ◌&&◌, ◌||◌, eqb, leb, ltb, length}
use Rattle.laws.specs.Lists.{any}
use Rattle.ascii.specs.Bytes.{is_high}
use Rattle.table.specs.Table.{word, count_of, strings, string_of}
use Rattle.table.specs.declared.Section.{Section}
use Rattle.model.specs.Sections.{rdns}
use Rattle.row_tests.specs.declared.Test.{Test}
use Rattle.row_tests.specs.declared.Test.TheVariants.{StringOut, NumberOut, OptionalOut, RangeOut, NameOut, PartNumber, PartOptional, PartRange, Over, PartOver, Extensions, NumberHigh, DnsHigh, OptionalHigh, NotZero}

-- word p is no string number
unfoldable pub no_string : List ℕ → ℕ → Bool
no_string w p = leb (count_of w strings) (word w p)

-- word p is neither 0 nor a string number plus 1
unfoldable pub no_optional : List ℕ → ℕ → Bool
no_optional w p = ltb (count_of w strings) (word w p)

-- words p and p + 1, first and count, are no range of the section
unfoldable pub no_range : List ℕ → Section → ℕ → Bool
no_range w s p = ltb (count_of w s) (word w p + word w (p + 1))

-- word p is above k
unfoldable pub over : List ℕ → ℕ → ℕ → Bool
over w k p = ltb k (word w p)

-- word p is not 0: a part is present, an optional string is there
unfoldable pub there : List ℕ → ℕ → Bool
there w p = not (eqb (word w p) 0)

-- string n has a byte over 127
unfoldable pub high_string : List ℕ → List ℕ → ℕ → Bool
high_string w b n = any is_high (string_of w b n)

-- a string, its start at p and its length at p + 1, ends outside the bytes
unfoldable pub string_out : List ℕ → List ℕ → ℕ → Bool
string_out w b p = ltb (length b) (word w p + word w (p + 1))

-- a name of kind 0 or 2 whose x is no string number, or of kind 1 whose x and y are no range of R; no other kind is read
unfoldable pub name_out : List ℕ → ℕ → Bool
name_out w q =
    ((eqb (word w q) 0 || eqb (word w q) 2) && no_string w (q + 1))
    || (eqb (word w q) 1 && no_range w rdns (q + 1))

-- a certificate has a part: one of words 15, 19, 21, 24, 28, 30, 33, 38, 39 isn't 0
unfoldable pub some_part : List ℕ → ℕ → Bool
some_part w q =
    there w (q + 15) || there w (q + 19) || there w (q + 21) || there w (q + 24) || there w (q + 28)
    || there w (q + 30) || there w (q + 33) || there w (q + 38) || there w (q + 39)

-- word 40 of a certificate is above 1, or 0 beside a present part
unfoldable pub extensions_wrong : List ℕ → ℕ → Bool
extensions_wrong w q = over w 1 (q + 40) || (not (there w (q + 40)) && some_part w q)

-- what each test says of word j of the row at q; m is the word that marks the part to which j belongs
abbrev pub wrong : Test → List ℕ → List ℕ → ℕ → ℕ → Bool
wrong StringOut w b q j = string_out w b (q + j)
wrong NumberOut w b q j = no_string w (q + j)
wrong OptionalOut w b q j = no_optional w (q + j)
wrong (RangeOut s) w b q j = no_range w s (q + j)
wrong NameOut w b q j = name_out w q
wrong (PartNumber m) w b q j = there w (q + m) && no_string w (q + j)
wrong (PartOptional m) w b q j = there w (q + m) && no_optional w (q + j)
wrong (PartRange m s) w b q j = there w (q + m) && no_range w s (q + j)
wrong (Over k) w b q j = over w k (q + j)
wrong (PartOver m k) w b q j = there w (q + m) && over w k (q + j)
wrong Extensions w b q j = extensions_wrong w q
wrong NumberHigh w b q j = high_string w b (word w (q + j))
wrong DnsHigh w b q j = eqb (word w q) 0 && high_string w b (word w (q + j))
wrong OptionalHigh w b q j = there w (q + j) && high_string w b (word w (q + j) - 1)
wrong NotZero w b q j = there w (q + j)
