-- Host names as the code asks for them: each way through a function gives what its definition says. Assumes nothing.
use Prim.Native.Nat.{ℕ, ◌+◌, ◌-◌, ◌≤◌, ◌<◌}
use native.Mathlib.Omega.{arith}
use native.Mathlib.Decide.{dec_lt}
use mathlib.Core.Path.{◌≡◌, refl, sym, ap, ◌∙◌}
use mathlib.Core.List.{[], ◌∷◌}
use mathlib.Core.Bool.{Bool, true, false, not, ◌&&◌, ◌||◌, and-false, or-false, false≢true}
use lib.Dec.{leb, ltb, eqb}
use lib.ListN.{length, get_or, take, drop}
use Rattle.std.specs.Borrow.{Bor}
use Rattle.std.specs.Prelude.{MatchOption}
use Rattle.std.specs.declared.option.Option.{Option}
use Rattle.std.specs.declared.option.Option.TheVariants.{Some, None}
use Rattle.std.specs.Option.{unwrap_or}
use Rattle.std.specs.Cmp.Lexicographic.{pointwise}
use borrow.Author.Tests.{leb-true, le-leb, eqb-true, ne_eqb, lt-ltb, le-ltb}
use Rattle.laws.specs.Lists.{any, all, each, eq_list, is_empty, pick}
use Rattle.laws.proofs.Meaning.{any_agree, any_map}
use Rattle.laws.proofs.Parts.{rest, empty_length}
use Rattle.laws.proofs.Equal.{each_sym}
use Rattle.laws.proofs.Tests.{and_left, and_right, pick_true, pick_false, eqb_sym}
use Rattle.ascii.specs.Bytes.{is_dot, is_star, is_host_byte, dot, star, class_of, lower_byte}
use Rattle.ascii.proofs.Chars.{class_dot, class_star, lower_dot, lower_star}
use Rattle.text.specs.Texts.{Text, quoted, lowered, taken, starts_with, ends_with, match_dns_name}
use Rattle.text.specs.declared.Letters.{Letters}
use Rattle.text.proofs.Chains.{each_of_pointwise}
use Rattle.text.proofs.Laws.{lowered_length, taken_length, lowered_take, taken_drop, lowered_at, starts_taken, no_dot, last_dot}
use Rattle.patterns.specs.Patterns.{one_label, match_name, final_dot_off, clean_name, Cleaned, permit_name, host_text, check_valid_pattern, valid_name_constraint}

-- some byte of a lowered text is the character that a class stands for
lowered_any : (k : ℕ) (p : ℕ → Bool) → ((x : ℕ) → eqb (class_of x) k ≡ p x) → ((x : ℕ) → p (lower_byte x) ≡ p x) → (s : Text) → any (λ x. eqb (class_of x) k) s ≡ any p (lowered s)
unfolding lowered
lowered_any k p e f s = any_agree (λ x. e x ∙ sym (f x)) s ∙ sym (any_map p lower_byte s)

-- ---- what the library answers of an end
flipped : (s r : Text) → pointwise eqb s r ≡ eq_list r s
flipped s r = each_of_pointwise eqb s r ∙ each_sym eqb eqb_sym s r

ends : (s : Text) → eq_list (quoted ".") (drop (length s - 1) s) ≡ ends_with s (quoted ".")
unfolding ends_with each
ends [] = refl
ends (x ∷ s) = rw (le-leb 1 (length (x ∷ s)) (omega arith)) refl

-- ---- one label before a tail
module _ (letters : Letters) (t n : Text) where
  abbrev tail : Text
  tail = taken letters t

  pub label_short : length n ≤ length t → false ≡ one_label tail (lowered n)
  unfolding one_label
  label_short h = rw (taken_length letters t, lowered_length n, le-ltb (length t) (length n) h) refl

  module _ (h : length t < length n) {e : Bool} (f : e ≡ ends_with (lowered n) tail) where
    pub label_other : e ≡ false → false ≡ one_label tail (lowered n)
    unfolding one_label
    label_other y = rw (taken_length letters t, lowered_length n, lt-ltb (length t) (length n) h, ← f, y) refl

    pub label_dots : {d : Bool} → e ≡ true → d ≡ any (λ x. eqb (class_of x) dot) (take (length n - length t) n) → not d ≡ one_label tail (lowered n)
    unfolding one_label
    label_dots y g = rw (taken_length letters t, lowered_length n, lt-ltb (length t) (length n) h, ← f, y, ← lowered_take (length n - length t) n, ← lowered_any dot is_dot class_dot lower_dot (take (length n - length t) n), g) refl

-- ---- a pattern
longer : (p : Text) → not (eqb (length (drop 2 p)) 0) ≡ ltb 2 (length p)
longer [] = refl
longer (x ∷ []) = refl
longer (x ∷ y ∷ []) = refl
longer (x ∷ y ∷ z ∷ s) = rw (lt-ltb 2 (length (x ∷ y ∷ z ∷ s)) (omega arith), ne_eqb (length (z ∷ s)) 0 (λ e. omega arith)) refl

module _ (letters : Letters) (p n : Text) {s : Bool} (b : s ≡ starts_with p (quoted "*.")) where
  starts : s ≡ starts_with (taken letters p) (quoted "*.")
  starts = b ∙ sym (starts_taken letters p)

  pub name_plain : {r : Bool} → s ≡ false → r ≡ eq_list (taken letters p) (lowered n) → r ≡ match_name (taken letters p) (lowered n)
  unfolding match_name
  name_plain y t = t ∙ sym (pick_false _ _ (sym starts ∙ y))

  -- e says whether nothing stands after the star and its dot
  module _ (y : s ≡ true) {e : Bool} (f : e ≡ eqb (length (take (length p - 2) (drop 2 p))) 0) where
    opened : match_name (taken letters p) (lowered n) ≡ (not e && (eq_list (taken letters (drop 2 p)) (lowered n) || one_label (taken letters (drop 1 p)) (lowered n)))
    unfolding match_name
    opened = pick_true _ _ (sym starts ∙ y) ∙ rw (taken_length letters p, f, rest 2 p, longer p, taken_drop letters 2 p, taken_drop letters 1 p) refl

    pub name_bare : e ≡ true → not e ≡ match_name (taken letters p) (lowered n)
    name_bare h = sym (opened ∙ rw h refl)

    module _ (h : e ≡ false) {a : Bool} (g : a ≡ eq_list (taken letters (take (length p - 2) (drop 2 p))) (lowered n)) where
      apex : a ≡ eq_list (taken letters (drop 2 p)) (lowered n)
      apex = g ∙ rw (rest 2 p) refl

      pub name_apex : a ≡ true → a ≡ match_name (taken letters p) (lowered n)
      name_apex z = sym (opened ∙ rw (h, ← apex, z) refl)

      pub name_under : {r : Bool} → a ≡ false → r ≡ one_label (taken letters (take (length p - 1) (drop 1 p))) (lowered n) → r ≡ match_name (taken letters p) (lowered n)
      name_under z t = t ∙ rw (rest 1 p) (sym (opened ∙ rw (h, ← apex, z) refl))

-- ---- cleaning
-- lowering makes no dot and takes none away
lowered_dot : (s : Text) → ends_with (lowered s) (quoted ".") ≡ ends_with s (quoted ".")
lowered_dot s = elim (dec_lt 0 (length s)) [
  | yes l ↦ let h : length s ≡ 0 → ⊥ = (λ e. omega arith) in last_dot (lowered s) (rw (lowered_length s) h) ∙ rw (lowered_length s, lowered_at s (length s - 1)) (lower_dot (get_or s (length s - 1) 0)) ∙ sym (last_dot s h)
  | no n ↦ let h : length s ≡ 0 = omega arith in no_dot (lowered s) (lowered_length s ∙ h) ∙ sym (no_dot s h)
]

-- the part without the final dot is the clean name once it is lowered
pub lowered_clean : (s : Text) → lowered (final_dot_off s) ≡ clean_name s
unfolding clean_name final_dot_off
lowered_clean s = rw (lowered_dot s, lowered_length s) (go (ends_with s (quoted "."))) where
  go : (t : Bool) → lowered (pick t (take (length s - 1) s) s) ≡ pick t (take (length s - 1) (lowered s)) (lowered s)
  go true = lowered_take (length s - 1) s
  go false = refl

cleaned : (s : Text) {r : Text} → r ≡ final_dot_off s → Cleaned s r
cleaned s e = record { part = e; clean = ap lowered e ∙ lowered_clean s }

-- r is the text without a final dot, if there is one
pub clean_of : (s : Bor Text) (r : Option (Bor Text)) → MatchOption r (pointwise eqb (drop (length s.now - 1) s.now) (quoted ".") ≡ false) (λ x. (pointwise eqb (drop (length s.now - 1) s.now) (quoted ".") ≡ true) × (x.now ≡ take (length s.now - 1) s.now) × (length x.now + 1 ≡ length s.now)) → Cleaned s.now (unwrap_or r s).now
unfolding final_dot_off
clean_of s None m = cleaned s.now (sym (pick_false _ _ (sym (flipped (drop (length s.now - 1) s.now) (quoted ".") ∙ ends s.now) ∙ m)))
clean_of s (Some x) m = cleaned s.now (m.1 ∙ sym (pick_true _ _ (sym (flipped (drop (length s.now - 1) s.now) (quoted ".") ∙ ends s.now) ∙ m.0)))

pub permitted : (c n : Text) {d : Text} {r : Bool} → Cleaned c d → r ≡ match_dns_name d n → r ≡ permit_name c (lowered n)
unfolding match_dns_name permit_name
permitted c n e t = t ∙ rw e.clean refl

-- ---- what a host name is made of
pub host_empty : (s : Text) {e : Bool} → e ≡ eqb (length s) 0 → e ≡ true → not e ≡ host_text s
unfolding host_text
host_empty s f y = rw (empty_length s, ← f, y) refl

pub host_some : (s : Text) {e h : Bool} → e ≡ eqb (length s) 0 → e ≡ false → h ≡ all is_host_byte s → h ≡ host_text s
unfolding host_text
host_some s f y t = rw (empty_length s, ← f, y, t) refl

-- a text that begins with a star isn't made of such bytes
star_first : (s : Text) → starts_with s (quoted "*.") ≡ true → all is_host_byte s ≡ false
unfolding starts_with each all
star_first [] h = absurd (false≢true h)
star_first (x ∷ s) h = let e : 42 ≡ x = eqb-true 42 x (and_left (eqb 42 x) _ (and_right (leb 2 (length (x ∷ s))) _ h)) in rw (← e) refl

-- and holds at least those two
pub two_bytes : (s : Text) → starts_with s (quoted "*.") ≡ true → 2 ≤ length s
unfolding starts_with
two_bytes s h = leb-true 2 (length s) (and_left (leb 2 (length s)) _ h)

module _ (s : Text) {e : Bool} (f : e ≡ starts_with s (quoted "*.")) where
  pub valid_plain : {r : Bool} → e ≡ false → r ≡ host_text s → r ≡ check_valid_pattern s
  unfolding check_valid_pattern
  valid_plain y t = t ∙ rw (← f, y) (sym (or-false (host_text s)))

  module _ (y : e ≡ true) {h : Bool} (g : h ≡ host_text (take (length s - 2) (drop 2 s))) where
    starred : check_valid_pattern s ≡ (h && any is_dot (drop 2 s))
    unfolding check_valid_pattern host_text
    starred = rw (star_first s (sym f ∙ y), and-false (not (is_empty s)), ← f, y, g, rest 2 s) refl

    pub valid_star : {r : Bool} → h ≡ true → r ≡ any (λ x. eqb (class_of x) dot) (take (length s - 2) (drop 2 s)) → r ≡ check_valid_pattern s
    valid_star z t = t ∙ rw (starred, z, rest 2 s) (any_agree class_dot (drop 2 s))

    pub valid_none : h ≡ false → h ≡ check_valid_pattern s
    valid_none z = sym (starred ∙ rw z refl)

-- ---- a DNS constraint; d is the part that cleaning hands back
module _ (c : Text) {d : Text} (g : Cleaned c d) {e : Bool} (f : e ≡ eqb (length d) 0) where
  opened_constraint : valid_name_constraint c ≡ (not e && not (ends_with (lowered d) (quoted ".")) && not (any is_star (lowered d)))
  unfolding valid_name_constraint
  opened_constraint = rw (← g.clean, empty_length (lowered d), lowered_length d, ← f) refl

  pub constraint_empty : e ≡ true → false ≡ valid_name_constraint c
  constraint_empty y = sym (opened_constraint ∙ rw y refl)

  module _ (y : e ≡ false) {o : Bool} (h : o ≡ pointwise eqb (quoted ".") (drop (length d - 1) d)) where
    dotted : o ≡ ends_with (lowered d) (quoted ".")
    dotted = h ∙ each_of_pointwise eqb _ _ ∙ ends d ∙ sym (lowered_dot d)

    pub constraint_dot : o ≡ true → not o ≡ valid_name_constraint c
    constraint_dot z = sym (opened_constraint ∙ rw (y, ← dotted, z) refl)

    pub constraint_star : o ≡ false → {t : Bool} → t ≡ any (λ x. eqb (class_of x) star) d → not t ≡ valid_name_constraint c
    constraint_star z k = rw (opened_constraint, y, ← dotted, z, k, lowered_any star is_star class_star lower_star d) refl
