-- Reads past the end: a word is 0 and a part is cut off. Assumes nothing.
use Prim.Native.Nat.{ℕ, ◌+◌, ◌-◌, ◌*◌, ◌/◌, ◌≤◌, ◌<◌, min}
use native.Mathlib.Omega.{arith}
use native.Mathlib.Decide.{dec_lt}
use native.Mathlib.Nat.{add-sub_cancel_left, div-lt_iff_lt-mul, le-div_iff_mul-le, zero-mul, zero-min, min-eq_left}
use mathlib.Core.Path.{◌≡◌, refl, sym, ap, ◌∙◌}
use mathlib.Core.List.{List, []}
use lib.ListN.{length, take, drop, length-drop, drop_of_length-le, get_or-eq_default}
use lib.Seq.{take_all, take-nil}
use Rattle.table.specs.Table.{word, part, offset_of, field_of, two_fields_of, range_of}
use Rattle.table.specs.declared.Section.{Section}
use Rattle.table.specs.declared.Two.{Two}

pub word_past : (w : List ℕ) (i : ℕ) → length w ≤ i → 0 ≡ word w i
unfolding word
word_past w i h = sym (get_or-eq_default w 0 h)

pub part_none : (b : List ℕ) (start len : ℕ) → length b ≤ start → [] ≡ part b start len
unfolding part
part_none b start len h = rw (drop_of_length-le b h, take-nil {A = ℕ} len)

pub part_rest : (b : List ℕ) (start len : ℕ) → length b - start ≤ len → take (length b - start) (drop start b) ≡ part b start len
unfolding part
part_rest b start len h =
    let e : length (drop start b) ≡ length b - start = length-drop start b in
    take_all (length b - start) (drop start b) (omega arith) ∙ sym (take_all len (drop start b) (omega arith))

pub part_whole : (b : List ℕ) (start len : ℕ) → take (start + len - start) (drop start b) ≡ part b start len
unfolding part
part_whole b start len = rw add-sub_cancel_left

-- ---- n rows of `size` words from `at` on end past the end, told by a division, which can't wrap
module _ (size at n total : ℕ) (s : size ≡ 0 → ⊥) (l : at ≤ total) where
  pub ends_past : (total - at) / size < n → total < at + size * n
  ends_past h = omega (arith, (div-lt_iff_lt-mul {k = size} {x = total - at} {y = n} (omega arith)).0 h)

  pub ends_inside : n ≤ (total - at) / size → at + size * n ≤ total
  ends_inside h = omega (arith, (le-div_iff_mul-le {k = size} {x = n} {y = total - at} (omega arith)).0 h)

-- ---- what n rows of `size` words take, told by a division, which can't wrap
module _ (size n largest : ℕ) where
  pub none_taken : size ≡ 0 → 0 ≡ min (size * n) largest
  none_taken z = rw (z, zero-mul) (sym (zero-min largest))

  pub too_many : (size ≡ 0 → ⊥) → largest / size < n → largest ≡ min (size * n) largest
  too_many s h = omega (arith, (div-lt_iff_lt-mul {k = size} {x = largest} {y = n} (omega arith)).0 h)

  pub product_fits : (size ≡ 0 → ⊥) → n ≤ largest / size → size * n ≤ largest
  product_fits s h = omega (arith, (le-div_iff_mul-le {k = size} {x = n} {y = largest} (omega arith)).0 h)

-- ---- where a row begins; `at` is where the section says that it begins, and `most` a number of words that no slice has
module _ (w : List ℕ) (s : Section) (n : ℕ) {at : ℕ} (e : at ≡ offset_of w s) (most : ℕ) (l : length w ≤ most) where
  field_past : (j : ℕ) → length w ≤ at + s.size * n + j → 0 ≡ field_of w s n j
  unfolding field_of
  field_past j h = word_past w (offset_of w s + s.size * n + j) (rw (← e) h)

  pub row_past : length w ≤ at → (j : ℕ) → word w (most + j) ≡ field_of w s n j
  row_past h j = sym (word_past w (most + j) (omega (arith, l))) ∙ field_past j (omega (arith, h))

  pub row_in : {row : ℕ} → row ≡ min (s.size * n) most → (j : ℕ) → word w (at + row + j) ≡ field_of w s n j
  unfolding field_of
  row_in t j = elim (dec_lt most (s.size * n)) [
    | yes h ↦ sym (word_past w _ (omega (arith, t, l, h))) ∙ field_past j (omega (arith, l, h))
    | no h ↦ rw (e, t, min-eq_left {n = s.size * n} {m = most} (omega arith)) refl
  ]

-- ---- two words of a row that begins at r
module _ (w : List ℕ) (s : Section) (n j r : ℕ) (e : (j : ℕ) → word w (r + j) ≡ field_of w s n j) where
  pub two_past : length w ≤ r + j → record { first = 0; second = 0 } ≡ two_fields_of w s n j
  unfolding two_fields_of
  two_past h = rw (← word_past w (r + j) h ∙ e j, ← word_past w (r + (j + 1)) (omega arith) ∙ e (j + 1)) refl

  pub two_in : {x y : ℕ} → x ≡ word w (r + j) → y ≡ word w (r + j + 1) → record { first = x; second = y } ≡ two_fields_of w s n j
  unfolding two_fields_of
  two_in p q = let z : r + j + 1 ≡ r + (j + 1) = omega arith in rw (p, q, z, e j, e (j + 1)) refl

module _ (w : List ℕ) (s : Section) (n j : ℕ) {r : Two} (e : r ≡ two_fields_of w s n j) where
  pub first_is : r.first ≡ field_of w s n j
  unfolding two_fields_of
  first_is = ap (λ (x : Two). x.first) e

  pub second_is : r.second ≡ field_of w s n (j + 1)
  unfolding two_fields_of
  second_is = ap (λ (x : Two). x.second) e

-- ---- a range
module _ (first n rows : ℕ) where
  pub clip_all : rows - first ≤ n → record { from = first; to = rows } ≡ range_of first n rows
  unfolding range_of
  clip_all h = let q : min (first + n) rows ≡ rows = omega arith in rw q refl

  pub clip_some : first + n ≤ rows → record { from = first; to = first + n } ≡ range_of first n rows
  unfolding range_of
  clip_some h = let q : min (first + n) rows ≡ first + n = omega arith in rw q refl
