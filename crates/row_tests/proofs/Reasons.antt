-- The tests of a word, as the code asks them. Assumes nothing.
use Prim.Native.Nat.{ℕ, ◌+◌, ◌-◌, ◌≤◌, min}
use native.Mathlib.Omega.{arith}
use mathlib.Core.Path.{◌≡◌, refl, sym, ap, ap₂, ◌∙◌}
use native.Mathlib.Decide.{dec_lt}
use mathlib.Core.Logic.{◌⊎◌, inl, inr, ⊎_elim}
use mathlib.Core.List.{List}
use mathlib.Core.Bool.{Bool, false, ◌&&◌, ◌||◌, or-false}
use lib.Dec.{eqb, ltb}
use lib.ListN.{length}
use borrow.Author.Tests.{le-ltb, ne_eqb}
use Rattle.table.specs.Table.{word}
use Rattle.table.specs.declared.Section.{Section}
use Rattle.table.proofs.Laws.{word_past}
use Rattle.model.specs.Sections.{rdns}
use Rattle.row_tests.specs.declared.Test.{Test}
use Rattle.row_tests.specs.declared.Test.TheVariants.{StringOut, NumberOut, OptionalOut, RangeOut, NameOut, PartNumber, PartOptional, PartRange, Over, PartOver, Extensions, NumberHigh, DnsHigh, OptionalHigh, NotZero}
use Rattle.row_tests.specs.Wrong.{no_string, no_optional, no_range, over, there, high_string, string_out, name_out, some_part, extensions_wrong, wrong}

-- a test that is known: what it says is what was asked
pub by_test : (t s : Test) (w b : List ℕ) (q j : ℕ) {r : Bool} → t ≡ s → r ≡ wrong s w b q j → r ≡ wrong t w b q j
by_test t s w b q j e h = h ∙ ap (λ (x : Test). wrong x w b q j) (sym e)

-- two words past the end
pub words_past : (count : ℕ) (w : List ℕ) (p : ℕ) → length w ≤ p → false ≡ ltb count (word w p + word w (p + 1))
words_past count w p h = rw (← word_past w p h, ← word_past w (p + 1) (omega arith)) (sym (le-ltb count 0 (omega arith)))

-- a name by its kind k
module _ (w : List ℕ) (q : ℕ) {k : ℕ} (e : k ≡ word w q) where
  pub name_text_law : {r : Bool} → (k ≡ 0) ⊎ (k ≡ 2) → r ≡ no_string w (q + 1) → r ≡ name_out w q
  unfolding name_out
  name_text_law h t = t ∙ rw (← e) (⊎_elim first second h) where
    first : k ≡ 0 → no_string w (q + 1) ≡ (((eqb k 0 || eqb k 2) && no_string w (q + 1)) || (eqb k 1 && no_range w rdns (q + 1)))
    first z = rw z (sym (or-false (no_string w (q + 1))))

    second : k ≡ 2 → no_string w (q + 1) ≡ (((eqb k 0 || eqb k 2) && no_string w (q + 1)) || (eqb k 1 && no_range w rdns (q + 1)))
    second z = rw z (sym (or-false (no_string w (q + 1))))

  pub name_directory : {r : Bool} → k ≡ 1 → r ≡ no_range w rdns (q + 1) → r ≡ name_out w q
  unfolding name_out
  name_directory z t = t ∙ rw (← e, z) refl

  pub name_unread : ((k ≡ 0) ⊎ (k ≡ 2) → ⊥) → (k ≡ 1 → ⊥) → false ≡ name_out w q
  unfolding name_out
  name_unread n m = rw (← e, ne_eqb k 0 (λ z. n (inl z)), ne_eqb k 2 (λ z. n (inr z)), ne_eqb k 1 m) refl

-- a string that is asked only where something is there
pub dns_other : (w b : List ℕ) (q n : ℕ) {k : ℕ} → k ≡ word w q → (k ≡ 0 → ⊥) → false ≡ (eqb (word w q) 0 && high_string w b n)
dns_other w b q n e h = rw (← e, ne_eqb _ 0 h) refl

pub dns_name : (w b : List ℕ) (q n : ℕ) {k : ℕ} {r : Bool} → k ≡ word w q → k ≡ 0 → r ≡ high_string w b n → r ≡ (eqb (word w q) 0 && high_string w b n)
dns_name w b q n e h t = t ∙ rw (← e, h) refl

pub no_optional_string : (w b : List ℕ) (p : ℕ) {n : ℕ} → n ≡ word w p → n ≡ 0 → false ≡ (there w p && high_string w b (word w p - 1))
unfolding there
no_optional_string w b p e h = rw (← e, h) refl

pub optional_string_law : (w b : List ℕ) (p : ℕ) {n : ℕ} {r : Bool} → n ≡ word w p → (n ≡ 0 → ⊥) → r ≡ high_string w b (n - 1) → r ≡ (there w p && high_string w b (word w p - 1))
unfolding there
optional_string_law w b p e h t = t ∙ rw (← e, ne_eqb _ 0 h) refl

-- ---- a row that begins past the last word reads as one that begins right behind it
module _ (w b : List ℕ) (q : ℕ) (h : length w ≤ q) where
  word_later : (k : ℕ) → word w (length w + k) ≡ word w (q + k)
  word_later k = sym (word_past w (length w + k) (omega arith)) ∙ word_past w (q + k) (omega arith)

  next_later : (k : ℕ) → word w (length w + k + 1) ≡ word w (q + k + 1)
  next_later k = sym (word_past w (length w + k + 1) (omega arith)) ∙ word_past w (q + k + 1) (omega arith)

  kind_later : word w (length w) ≡ word w q
  kind_later = sym (word_past w (length w) (omega arith)) ∙ word_past w q h

  there_later : (k : ℕ) → there w (length w + k) ≡ there w (q + k)
  unfolding there
  there_later k = rw (word_later k) refl

  string_later : (k : ℕ) → no_string w (length w + k) ≡ no_string w (q + k)
  unfolding no_string
  string_later k = rw (word_later k) refl

  optional_later : (k : ℕ) → no_optional w (length w + k) ≡ no_optional w (q + k)
  unfolding no_optional
  optional_later k = rw (word_later k) refl

  range_later : (s : Section) (k : ℕ) → no_range w s (length w + k) ≡ no_range w s (q + k)
  unfolding no_range
  range_later s k = rw (word_later k, next_later k) refl

  over_later : (m k : ℕ) → over w m (length w + k) ≡ over w m (q + k)
  unfolding over
  over_later m k = rw (word_later k) refl

  name_later : name_out w (length w) ≡ name_out w q
  unfolding name_out
  name_later = rw (kind_later, string_later 1, range_later rdns 1) refl

  parts_later : some_part w (length w) ≡ some_part w q
  unfolding some_part
  parts_later = rw (there_later 15, there_later 19, there_later 21, there_later 24, there_later 28, there_later 30, there_later 33, there_later 38, there_later 39) refl

  extensions_later : extensions_wrong w (length w) ≡ extensions_wrong w q
  unfolding extensions_wrong
  extensions_later = rw (over_later 1 40, there_later 40, parts_later) refl

  wrong_later : (t : Test) (j : ℕ) → wrong t w b (length w) j ≡ wrong t w b q j
  unfolding string_out
  wrong_later StringOut j = rw (word_later j, next_later j) refl
  wrong_later NumberOut j = string_later j
  wrong_later OptionalOut j = optional_later j
  wrong_later (RangeOut s) j = range_later s j
  wrong_later NameOut j = name_later
  wrong_later (PartNumber m) j = ap₂ ◌&&◌ (there_later m) (string_later j)
  wrong_later (PartOptional m) j = ap₂ ◌&&◌ (there_later m) (optional_later j)
  wrong_later (PartRange m s) j = ap₂ ◌&&◌ (there_later m) (range_later s j)
  wrong_later (Over k) j = over_later k j
  wrong_later (PartOver m k) j = ap₂ ◌&&◌ (there_later m) (over_later k j)
  wrong_later Extensions j = extensions_later
  wrong_later NumberHigh j = rw (word_later j) refl
  wrong_later DnsHigh j = rw (kind_later, word_later j) refl
  wrong_later OptionalHigh j = rw (there_later j, word_later j) refl
  wrong_later NotZero j = there_later j

-- so does one whose start is cut to the length
pub by_start : (t : Test) (w b : List ℕ) (q j : ℕ) {p : ℕ} {r : Bool} → p ≡ min q (length w) → r ≡ wrong t w b p j → r ≡ wrong t w b q j
by_start t w b q j e h = h ∙ elim (dec_lt (length w) q) [
  | yes l ↦ let k : min q (length w) ≡ length w = omega arith in rw (e, k) (wrong_later w b q (omega arith) t j)
  | no l ↦ let k : min q (length w) ≡ q = omega arith in rw (e, k) refl
]
