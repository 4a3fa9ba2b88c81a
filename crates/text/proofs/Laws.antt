-- Texts: what lowering keeps, beginnings and ends, covering. Assumes nothing.
use Prim.Native.Nat.{ℕ, suc, ◌-◌, ◌≤◌, ◌<◌}
use native.Mathlib.Omega.{arith}
use native.Mathlib.Decide.{dec_lt}
use mathlib.Core.Path.{◌≡◌, refl, sym, ◌∙◌}
use mathlib.Core.List.{[], ◌∷◌, ◌++◌}
use mathlib.Core.Bool.{Bool, true, false, ◌&&◌, ◌||◌, and-true}
use lib.Dec.{leb, eqb}
use lib.ListN.{length, get_or, drop, take, drop_of_length-le, length-map, get_or-map}
use lib.Seq.{drop-cons}
use borrow.Author.Tests.{le-leb, lt-leb}
use Rattle.laws.specs.Lists.{each, eq_list}
use Rattle.laws.proofs.Equal.{each_map, each_length}
use Rattle.laws.proofs.Parts.{rest, map_drop, map_take}
use Rattle.laws.proofs.Tests.{eqb_sym}
use Rattle.ascii.specs.Bytes.{is_dot, dot, lower_byte, class_of}
use Rattle.ascii.proofs.Chars.{class_dot, lower_dot, lower_star}
use Rattle.text.specs.Texts.{Text, quoted, lowered, taken_byte, taken, starts_with, ends_with, covers, match_dns_name}
use Rattle.text.specs.declared.Letters.{Letters}
use Rattle.text.specs.declared.Letters.TheVariants.{AsGiven, Lowered}

-- ---- a pattern's byte against a name's, by how the letters are taken
module _ (letters : Letters) (x y : ℕ) where
  pub as_given : letters ≡ AsGiven → {r : ℕ} → r ≡ lower_byte y → eqb x r ≡ eqb (taken_byte letters x) (lower_byte y)
  as_given e t = rw (e, t) refl

  pub both_lowered : letters ≡ Lowered → {r : Bool} → r ≡ eqb (lower_byte x) (lower_byte y) → r ≡ eqb (taken_byte letters x) (lower_byte y)
  both_lowered e t = t ∙ rw e refl

-- a character that lowering keeps, seen from the pattern's side
taken_is : (letters : Letters) (k : ℕ) → ((x : ℕ) → eqb (lower_byte x) k ≡ eqb x k) → (x : ℕ) → eqb k (taken_byte letters x) ≡ eqb k x
taken_is AsGiven k e x = refl
taken_is Lowered k e x = eqb_sym k (lower_byte x) ∙ e x ∙ eqb_sym x k

pub taken_each : (letters : Letters) (p n : Text) → eq_list (taken letters p) (lowered n) ≡ each (λ x y. eqb (taken_byte letters x) (lower_byte y)) p n
unfolding taken lowered
taken_each letters p n = each_map eqb (taken_byte letters) lower_byte p n

-- ---- lowering keeps the length and goes with parts
pub lowered_length : (s : Text) → length (lowered s) ≡ length s
unfolding lowered
lowered_length s = length-map s lower_byte

pub taken_length : (letters : Letters) (s : Text) → length (taken letters s) ≡ length s
unfolding taken
taken_length letters s = length-map s (taken_byte letters)

pub lowered_take : (k : ℕ) (s : Text) → lowered (take k s) ≡ take k (lowered s)
unfolding lowered
lowered_take k s = sym (map_take lower_byte k s)

pub taken_drop : (letters : Letters) (k : ℕ) (s : Text) → taken letters (drop k s) ≡ drop k (taken letters s)
unfolding taken
taken_drop letters k s = sym (map_drop (taken_byte letters) k s)

-- a byte of a lowered text
pub lowered_at : (s : Text) (k : ℕ) → get_or (lowered s) k 0 ≡ lower_byte (get_or s k 0)
unfolding lowered lower_byte
lowered_at s k = get_or-map lower_byte s k 0

-- ---- beginnings
module _ (s r : Text) where
  pub start_short : length s < length r → false ≡ starts_with s r
  unfolding starts_with
  start_short h = rw (lt-leb (length r) (length s) h) refl

  pub start_same : {t : Bool} → length r ≤ length s → t ≡ eq_list r (take (length r) s) → t ≡ starts_with s r
  unfolding starts_with
  start_same h e = e ∙ rw (le-leb (length r) (length s) h) refl

-- a text begins with `*.` whether its letters are lowered or not
pub starts_taken : (letters : Letters) (s : Text) → starts_with (taken letters s) (quoted "*.") ≡ starts_with s (quoted "*.")
unfolding starts_with taken each
starts_taken letters [] = refl
starts_taken letters (x ∷ []) = refl
starts_taken letters (x ∷ y ∷ s) = rw (taken_length letters s, taken_is letters 42 lower_star x, taken_is letters 46 lower_dot y) refl

-- ---- ends, of texts whose bytes are changed one by one
module _ (letters : Letters) (s r : Text) where
  ends_opened : ends_with (lowered s) (taken letters r) ≡ (leb (length r) (length s) && eq_list (taken letters r) (lowered (drop (length s - length r) s)))
  unfolding ends_with lowered taken
  ends_opened = rw (lowered_length s, taken_length letters r, map_drop lower_byte (length s - length r) s) refl

  pub end_short : length s < length r → false ≡ ends_with (lowered s) (taken letters r)
  end_short h = rw (ends_opened, lt-leb (length r) (length s) h) refl

  pub end_same : {t : Bool} → length r ≤ length s → t ≡ eq_list (taken letters r) (lowered (take (length s - (length s - length r)) (drop (length s - length r) s))) → t ≡ ends_with (lowered s) (taken letters r)
  end_same h e = e ∙ rw (ends_opened, le-leb (length r) (length s) h, rest (length s - length r) s) refl

-- an end that is one dot
pub no_dot : (s : Text) → length s ≡ 0 → ends_with s (quoted ".") ≡ false
unfolding ends_with
no_dot s h = rw h refl

pub last_dot : (s : Text) → (length s ≡ 0 → ⊥) → ends_with s (quoted ".") ≡ is_dot (get_or s (length s - 1) 0)
unfolding ends_with each
last_dot s h = rw (le-leb 1 (length s) (omega arith), drop-cons s (length s - 1) 0 (omega arith), drop_of_length-le s {i = suc (length s - 1)} (omega arith), and-true (eqb 46 (get_or s (length s - 1) 0))) (eqb_sym 46 (get_or s (length s - 1) 0))

-- ---- covering, told by lengths, one dot and one comparison
cover_empty : (c n : Text) → length c ≡ 0 → true ≡ covers c n
unfolding covers
cover_empty [] n h = refl
cover_empty (x ∷ c) n h = absurd (omega arith)

absorb : (e s g : Bool) → (e && (e || s || g)) ≡ e
absorb true s g = refl
absorb false s g = refl

-- a name with another end isn't covered
cover_other : (c n : Text) → (length c ≡ 0 → ⊥) → ends_with n c ≡ false → covers c n ≡ false
unfolding covers
cover_other [] n k h = absurd (k refl)
cover_other (x ∷ c) n k h = rw h refl

-- a name that is no longer than the constraint is covered if it ends with it
cover_short : (c n : Text) → (length c ≡ 0 → ⊥) → length n ≤ length c → covers c n ≡ ends_with n c
unfolding covers ends_with
cover_short [] n k h = absurd (k refl)
cover_short (x ∷ c) n k h = elim (dec_lt (length n) (length (x ∷ c))) [
  | yes l ↦ rw (lt-leb (length (x ∷ c)) (length n) l) refl
  | no m ↦ let z : length n - length (x ∷ c) ≡ 0 = omega arith in rw (le-leb (length (x ∷ c)) (length n) (omega arith), z) (absorb (eq_list (x ∷ c) n) _ _)
]

-- the dot that begins the constraint, or stands in the name before the end that is as long
abbrev dotted : Text → Text → Bool
dotted c n = is_dot (get_or c 0 0) || is_dot (get_or n (length n - length c - 1) 0)

begins : (x : ℕ) (c : Text) → starts_with (x ∷ c) (quoted ".") ≡ is_dot x
unfolding starts_with each
begins x c = rw (le-leb 1 (length (x ∷ c)) (omega arith), and-true (eqb 46 x)) (eqb_sym 46 x)

before : (c n : Text) → length c < length n → ends_with n (quoted "." ++ c) ≡ (is_dot (get_or n (length n - length c - 1) 0) && ends_with n c)
unfolding ends_with each
before c n h =
    let k : length n - suc (length c) ≡ length n - length c - 1 = omega arith in
    let l : suc (length n - length c - 1) ≡ length n - length c = omega arith in
    rw (le-leb (suc (length c)) (length n) h, le-leb (length c) (length n) (omega arith), k, drop-cons n (length n - length c - 1) 0 (omega arith), l, eqb_sym 46 (get_or n (length n - length c - 1) 0)) refl

order : (e s g : Bool) → (e && (s || (g && e))) ≡ ((s || g) && e)
order true true g = refl
order true false true = refl
order true false false = refl
order false true g = refl
order false false true = refl
order false false false = refl

cover_longer : (c n : Text) → (length c ≡ 0 → ⊥) → length c < length n → covers c n ≡ (dotted c n && ends_with n c)
unfolding covers
cover_longer [] n k h = absurd (k refl)
cover_longer (x ∷ c) n k h =
    rw (each_length eqb (x ∷ c) n (λ e. omega arith), begins x c, before (x ∷ c) n h)
    (order (ends_with n (x ∷ c)) (is_dot x) (is_dot (get_or n (length n - length (x ∷ c) - 1) 0)))

-- the same once both are lowered, as the code asks it: first for the end, then for a dot
abbrev ending : Text → Text → Bool
ending c n = ends_with (lowered n) (taken Lowered c)

module _ (c n : Text) where
  pub match_empty : length c ≡ 0 → true ≡ match_dns_name c n
  unfolding match_dns_name lowered
  match_empty h = cover_empty (lowered c) (lowered n) (length-map c lower_byte ∙ h)

  module _ (k : length c ≡ 0 → ⊥) where
    not_empty : length (lowered c) ≡ 0 → ⊥
    unfolding lowered
    not_empty = rw (length-map c lower_byte) k

    match_longer : length c < length n → match_dns_name c n ≡ (dotted c n && ending c n)
    unfolding match_dns_name lowered taken lower_byte
    match_longer h = cover_longer (lowered c) (lowered n) not_empty (rw (length-map c lower_byte, length-map n lower_byte) h) ∙ rw (length-map c lower_byte, length-map n lower_byte, get_or-map lower_byte c 0 0, get_or-map lower_byte n (length n - length c - 1) 0, lower_dot (get_or c 0 0), lower_dot (get_or n (length n - length c - 1) 0)) refl

    module _ {e : Bool} (t : e ≡ ending c n) where
      pub match_other : e ≡ false → false ≡ match_dns_name c n
      unfolding match_dns_name lowered taken
      match_other y = sym (cover_other (lowered c) (lowered n) not_empty (sym t ∙ y))

      pub match_same : e ≡ true → length n ≤ length c → true ≡ match_dns_name c n
      unfolding match_dns_name lowered taken
      match_same y h = sym (cover_short (lowered c) (lowered n) not_empty (rw (length-map c lower_byte, length-map n lower_byte) h) ∙ sym t ∙ y)

      pub match_dot : {f g : ℕ} → e ≡ true → length c < length n → f ≡ class_of (get_or c 0 0) → g ≡ class_of (get_or n (length n - length c - 1) 0) → (eqb f dot || eqb g dot) ≡ match_dns_name c n
      match_dot y h u v = rw (u, v, class_dot (get_or c 0 0), class_dot (get_or n (length n - length c - 1) 0), match_longer h, ← t, y) (sym (and-true _))
