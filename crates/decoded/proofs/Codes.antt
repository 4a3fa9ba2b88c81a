-- A code in its range is told from what it decodes to. Assumes nothing.
use Prim.Native.Nat.{ℕ, zero, suc, ◌+◌, ◌*◌, ◌/◌, ◌%◌, ◌^◌, ◌≤◌, ◌<◌}
use native.Mathlib.Omega.{arith}
use native.Mathlib.Decide.{dec_lt}
use mathlib.Core.Path.{◌≡◌, refl, sym, ◌∙◌}
use mathlib.Core.Bool.{Bool, true, false}
use mathlib.Core.List.{List}
use mathlib.Core.Option.{none, some}
use lib.Dec.{eqb}
use borrow.Author.Tests.{eqb-false, lt-ltb, le-ltb}
use Rattle.laws.specs.Lists.{pick}
use Rattle.model.specs.Decode.{unless_zero, mark_of, key_of, flag_of, bit_of, signed_of, extensions_of, ku_at, cert_word}
use Rattle.decoded.specs.Words.{whether, where_present, mark_word, key_word, key_bits, flag_word, signed_word, bits_word, extensions_word, said, given}

-- ---- something that is there unless a word is 0
module _ {A : Type 0} (f : A → ℕ) (x : A) where
  by_test : (t : Bool) (y : ℕ) → (t ≡ false → y ≡ f x) → pick t 0 y ≡ said f (pick t none (some x))
  by_test true y h = refl
  by_test false y h = h refl

  -- a word of a part
  pub part_word : (m y : ℕ) → ((m ≡ 0 → ⊥) → y ≡ f x) → where_present m y ≡ said f (unless_zero m x)
  unfolding unless_zero
  part_word m y h = by_test (eqb m 0) y (λ e. h (eqb-false m 0 e))

  -- the word that marks a part
  pub part_mark : (m : ℕ) → m ≤ 3 → f x ≡ mark_word (mark_of m) → m ≡ said f (unless_zero m x)
  unfolding unless_zero mark_of
  part_mark zero h e = refl
  part_mark (suc zero) h e = sym e
  part_mark (suc (suc zero)) h e = sym e
  part_mark (suc (suc (suc zero))) h e = sym e
  part_mark (suc (suc (suc (suc m)))) h e = absurd (omega arith)

-- whether a string is there
pub string_there : {A : Type 0} (x : A) (m : ℕ) → whether m ≡ given (unless_zero m x)
string_there x m = part_word (λ y. 1) x m 1 (λ h. refl)

-- ---- codes
pub flag_word_law : (m : ℕ) → m ≤ 1 → m ≡ flag_word (flag_of m)
unfolding flag_of
flag_word_law zero h = refl
flag_word_law (suc zero) h = refl
flag_word_law (suc (suc m)) h = absurd (omega arith)

pub flag_there : {A : Type 0} (x : A) (m : ℕ) → m ≤ 1 → m ≡ given (unless_zero m x)
unfolding unless_zero
flag_there x zero h = refl
flag_there x (suc zero) h = refl
flag_there x (suc (suc m)) h = absurd (omega arith)

pub key_word_law : (m bits : ℕ) → m ≤ 2 → m ≡ key_word (key_of m bits)
unfolding key_of
key_word_law zero bits h = refl
key_word_law (suc zero) bits h = refl
key_word_law (suc (suc zero)) bits h = refl
key_word_law (suc (suc (suc m))) bits h = absurd (omega arith)

pub key_bits_law : (m bits : ℕ) → m ≤ 2 → pick (eqb m 0) bits 0 ≡ key_bits (key_of m bits)
unfolding key_of
key_bits_law zero bits h = refl
key_bits_law (suc zero) bits h = refl
key_bits_law (suc (suc zero)) bits h = refl
key_bits_law (suc (suc (suc m))) bits h = absurd (omega arith)

pub extensions_word_law : (m : ℕ) → m ≤ 1 → m ≡ extensions_word (extensions_of m)
unfolding extensions_of
extensions_word_law zero h = refl
extensions_word_law (suc zero) h = refl
extensions_word_law (suc (suc m)) h = absurd (omega arith)

-- a word of 64 bits is told from its integer
pub signed_word_law : (m : ℕ) → m < 2 ^ 64 → m ≡ signed_word (signed_of m)
unfolding signed_of
signed_word_law m h = elim (dec_lt m (2 ^ 63)) [
  | yes l ↦ rw (lt-ltb m (2 ^ 63) l) refl
  | no l ↦ rw (le-ltb m (2 ^ 63) (omega arith)) (omega arith)
]

-- ---- bits
one_bit : (m : ℕ) → m < 2 → flag_word (eqb m 1) ≡ m
one_bit zero h = refl
one_bit (suc zero) h = refl
one_bit (suc (suc m)) h = absurd (omega arith)

bit : (k n : ℕ) → flag_word (bit_of k n) ≡ n / 2 ^ k % 2
unfolding bit_of
bit k n = one_bit (n / 2 ^ k % 2) (omega arith)

-- a number by its halves
stacked : (a0 a1 a2 a3 a4 a5 a6 a7 : ℕ) {n a8 q1 q2 q3 q4 q5 q6 q7 q8 : ℕ} → a0 + 2 * q1 ≡ n → a1 + 2 * q2 ≡ q1 → a2 + 2 * q3 ≡ q2 → a3 + 2 * q4 ≡ q3 → a4 + 2 * q5 ≡ q4 → a5 + 2 * q6 ≡ q5 → a6 + 2 * q7 ≡ q6 → a7 + 2 * q8 ≡ q7 → a8 ≡ q8 → n ≡ a0 + 2 * a1 + 4 * a2 + 8 * a3 + 16 * a4 + 32 * a5 + 64 * a6 + 128 * a7 + 256 * a8
stacked a0 a1 a2 a3 a4 a5 a6 a7 e0 e1 e2 e3 e4 e5 e6 e7 e8 = omega arith

halves : (n : ℕ) → n ≤ 511 → n ≡ (n / 1 % 2) + 2 * (n / 2 % 2) + 4 * (n / 4 % 2) + 8 * (n / 8 % 2) + 16 * (n / 16 % 2) + 32 * (n / 32 % 2) + 64 * (n / 64 % 2) + 128 * (n / 128 % 2) + 256 * (n / 256 % 2)
halves n h =
    let e0 : n / 1 % 2 + 2 * (n / 2) ≡ n = omega arith in
    let e1 : n / 2 % 2 + 2 * (n / 4) ≡ n / 2 = omega arith in
    let e2 : n / 4 % 2 + 2 * (n / 8) ≡ n / 4 = omega arith in
    let e3 : n / 8 % 2 + 2 * (n / 16) ≡ n / 8 = omega arith in
    let e4 : n / 16 % 2 + 2 * (n / 32) ≡ n / 16 = omega arith in
    let e5 : n / 32 % 2 + 2 * (n / 64) ≡ n / 32 = omega arith in
    let e6 : n / 64 % 2 + 2 * (n / 128) ≡ n / 64 = omega arith in
    let e7 : n / 128 % 2 + 2 * (n / 256) ≡ n / 128 = omega arith in
    let e8 : n / 256 % 2 ≡ n / 256 = omega arith in
    stacked (n / 1 % 2) (n / 2 % 2) (n / 4 % 2) (n / 8 % 2) (n / 16 % 2) (n / 32 % 2) (n / 64 % 2) (n / 128 % 2) e0 e1 e2 e3 e4 e5 e6 e7 e8

-- the nine bits of a word are the word
pub bits_word_law : (w b : List ℕ) (n : ℕ) → cert_word w n 29 ≤ 511 → cert_word w n 29 ≡ bits_word (ku_at w b n)
bits_word_law w b n h = let m = cert_word w n 29 in halves m h ∙ sym (rw (bit 0 m, bit 1 m, bit 2 m, bit 3 m, bit 4 m, bit 5 m, bit 6 m, bit 7 m, bit 8 m) refl)
