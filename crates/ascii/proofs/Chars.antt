-- Bytes: the table's rule, what a class says of a byte, and what lowering keeps. Assumes nothing.
use Prim.Native.Nat.{ℕ, ◌+◌, ◌%◌, ◌/◌, ◌≤◌, ◌<◌, zero-le}
use native.Mathlib.Omega.{arith}
use native.Mathlib.Decide.{dec_lt}
use native.Mathlib.Nat.{zero-add}
use mathlib.Core.Path.{◌≡◌, refl, sym, ◌∙◌}
use mathlib.Core.List.{List}
use mathlib.Core.Bool.{Bool, true, false, ◌&&◌, beq, and-false, false≢true}
use borrow.Author.Tests.{eqb-true, ne_eqb, le-leb, lt-leb}
use lib.Dec.{leb, eqb}
use lib.ListN.{get_or}
use Rattle.laws.specs.Lists.{all, numbers, rows, run, pick}
use Rattle.laws.proofs.Meaning.{all_every}
use Rattle.laws.proofs.Rows.{rows_at}
use Rattle.ascii.specs.Bytes.{is_upper, is_dot, is_star, is_space, is_host_byte, lower_byte, class_of, entry_of, whole_table, letter, dot, star, space, high}

-- ---- one law carries what is tested on the first numbers to each of them
pub tested : (f : ℕ → Bool) (n : ℕ) → all f (numbers 0 n) ≡ true → (x : ℕ) → x < n → f x ≡ true
tested f n y x h = all_every f (λ k. k) 0 n y x zero-le h

beq_true : (a b : Bool) → beq a b ≡ true → a ≡ b
beq_true true true h = refl
beq_true true false h = absurd (false≢true h)
beq_true false true h = absurd (false≢true h)
beq_true false false h = refl

-- two tests that agree on each ASCII character and on each number above agree
pub agree : (f g : ℕ → Bool) → all (λ x. beq (f x) (g x)) (numbers 0 128) ≡ true → ((x : ℕ) → 128 ≤ x → f x ≡ g x) → (x : ℕ) → f x ≡ g x
agree f g y above x = elim (dec_lt x 128) [ yes h ↦ beq_true _ _ (tested (λ x. beq (f x) (g x)) 128 y x h) | no h ↦ above x (omega arith) ]

-- ---- the table
-- the table holds the entry of each byte at that byte
entry_at : {t : List ℕ} (x : ℕ) → x < 256 → t ≡ whole_table → get_or t x 0 ≡ entry_of x
unfolding whole_table
entry_at x h e = rw (e, rows_at entry_of 0 0 256 x (omega arith), zero-add x) refl

-- above Z lowering changes nothing
pub lower_above : (x : ℕ) → 90 < x → lower_byte x ≡ x
unfolding lower_byte
lower_above x h = rw (lt-leb x 90 h, and-false (leb 65 x)) refl

lower_below : (x : ℕ) → x ≤ 90 → lower_byte x < 256
unfolding lower_byte
lower_below x h = go (is_upper x) where
  go : (t : Bool) → pick t (x + 32) x < 256
  go true = omega arith
  go false = omega arith

lower_fits : (x : ℕ) → x < 256 → lower_byte x < 256
lower_fits x h = elim (dec_lt 90 x) [ yes l ↦ rw (lower_above x l) h | no n ↦ lower_below x (omega arith) ]

-- an entry taken apart: t is the table, r what was read there
module _ (x : ℕ) (h : x < 256) (t : List ℕ) (w : t ≡ whole_table) {r : ℕ} (e : r ≡ get_or t x 0) where
  entry_is : r ≡ entry_of x
  entry_is = e ∙ entry_at x h w

  pub entry_lower : r % 256 ≡ lower_byte x
  unfolding entry_of
  entry_lower = let q = entry_is in let l = lower_fits x h in omega arith

  pub entry_class : r / 256 ≡ class_of x
  unfolding entry_of
  entry_class = let q = entry_is in let l = lower_fits x h in omega arith

-- ---- what a class says of a byte
class_above : (x : ℕ) → 128 ≤ x → class_of x ≡ high
unfolding class_of
class_above x h = rw (le-leb 128 x h) refl

-- a class that only ASCII characters have, and its test
module _ (k : ℕ) (test : ℕ → Bool) where
  pub class_is : eqb high k ≡ false → ((x : ℕ) → 128 ≤ x → test x ≡ false) → all (λ x. beq (eqb (class_of x) k) (test x)) (numbers 0 128) ≡ true → (x : ℕ) → eqb (class_of x) k ≡ test x
  class_is n above y = agree (λ x. eqb (class_of x) k) test y (λ x h. rw (class_above x h) (n ∙ sym (above x h)))

not_above : (k : ℕ) → k < 128 → (x : ℕ) → 128 ≤ x → eqb x k ≡ false
not_above k l x h = ne_eqb x k (λ e. omega arith)

pub class_dot : (x : ℕ) → eqb (class_of x) dot ≡ is_dot x
unfolding all rows run class_of
class_dot = class_is dot is_dot refl (not_above 46 (omega arith)) refl

pub class_star : (x : ℕ) → eqb (class_of x) star ≡ is_star x
unfolding all rows run class_of
class_star = class_is star is_star refl (not_above 42 (omega arith)) refl

pub class_space : (x : ℕ) → eqb (class_of x) space ≡ is_space x
unfolding all rows run class_of
class_space = class_is space is_space refl (not_above 32 (omega arith)) refl

host_above : (x : ℕ) → 128 ≤ x → is_host_byte x ≡ false
host_above x h = rw (lt-leb x 90 (omega arith), lt-leb x 122 (omega arith), lt-leb x 57 (omega arith), and-false (leb 65 x), and-false (leb 97 x), and-false (leb 48 x), not_above 45 (omega arith) x h, not_above 95 (omega arith) x h, not_above 46 (omega arith) x h) refl

-- the classes from letter to dot are those of a name's bytes
pub class_host : (x : ℕ) → (leb letter (class_of x) && leb (class_of x) dot) ≡ is_host_byte x
unfolding all rows run class_of
class_host = agree _ _ refl (λ x h. rw (class_above x h) (sym (host_above x h)))

-- ---- what lowering keeps
pub lower_idempotent : (x : ℕ) → lower_byte (lower_byte x) ≡ lower_byte x
unfolding all rows run lower_byte
lower_idempotent x = elim (dec_lt x 128) [ yes h ↦ eqb-true _ _ (tested (λ x. eqb (lower_byte (lower_byte x)) (lower_byte x)) 128 refl x h) | no h ↦ let e : lower_byte x ≡ x = lower_above x (omega arith) in rw (e, e) refl ]

-- a character that is no letter is what it was, and nothing else becomes it
lower_keeps : (k : ℕ) → all (λ x. beq (eqb (lower_byte x) k) (eqb x k)) (numbers 0 128) ≡ true → (x : ℕ) → eqb (lower_byte x) k ≡ eqb x k
lower_keeps k y = agree (λ x. eqb (lower_byte x) k) (λ x. eqb x k) y (λ x h. rw (lower_above x (omega arith)) refl)

pub lower_dot : (x : ℕ) → is_dot (lower_byte x) ≡ is_dot x
unfolding all rows run lower_byte
lower_dot = lower_keeps 46 refl

pub lower_star : (x : ℕ) → is_star (lower_byte x) ≡ is_star x
unfolding all rows run lower_byte
lower_star = lower_keeps 42 refl

pub lower_space : (x : ℕ) → is_space (lower_byte x) ≡ is_space x
unfolding all rows run lower_byte
lower_space = lower_keeps 32 refl
