-- The walk through a normal form is the normal form, and its steps. Assumes nothing.
use Prim.Native.Nat.{ℕ, suc, ◌+◌, ◌-◌, ◌≤◌, ◌<◌}
use native.Mathlib.Omega.{arith}
use native.Mathlib.Decide.{dec_lt}
use mathlib.Core.Path.{◌≡◌, refl, sym, ap, ◌∙◌}
use mathlib.Core.List.{[], ◌∷◌, map}
use mathlib.Core.Bool.{Bool, true, false, not, ◌&&◌, cond, true≢false}
use lib.Dec.{ltb, eqb}
use lib.ListN.{length, take, drop, drop_of_length-le}
use borrow.Author.Tests.{eq-eqb, ne_eqb, eqb-true, lt-ltb, le-ltb}
use Rattle.std.specs.declared.option.Option.{Option}
use Rattle.std.specs.declared.option.Option.TheVariants.{Some, None}
use Rattle.std.specs.Option.{unwrap_or, is_some}
use Rattle.std.specs.List.{position_or_len, IsFirstAndRest}
use Rattle.laws.specs.Lists.{pick, all, each, eq_list}
use Rattle.laws.proofs.Tests.{and_left, and_right}
use Rattle.laws.proofs.Parts.{rest}
use Rattle.laws.proofs.Equal.{equal_list, list_equal}
use Rattle.ascii.specs.Bytes.{is_space, lower_byte}
use Rattle.ascii.proofs.Chars.{lower_space}
use Rattle.text.specs.Texts.{Text, lowered}
use Rattle.normal.specs.Normal.{drop_front, drop_back, space_first, one_space, normalize_string, same_normal}
use Rattle.normal.specs.Walk.{form, Advanced}
use Rattle.normal.specs.declared.Step.{Step}

-- ---- the walk is the normal form
-- the walk, over a text that is lowered already
unfoldable walk : Bool → Text → Text
walk owed [] = []
walk owed (x ∷ s) = pick (is_space x) (walk true s) (pick owed (32 ∷ x ∷ walk false s) (x ∷ walk false s))

spaces_alone : (owed : Bool) (s : Text) → all is_space s ≡ true → walk owed s ≡ []
unfolding walk all
spaces_alone owed [] h = refl
spaces_alone owed (x ∷ s) h = rw (and_left (is_space x) _ h) (spaces_alone true s (and_right (is_space x) _ h))

-- what a text begins with, it keeps unless it is spaces alone
back_first : (s : Text) → all is_space s ≡ false → space_first (drop_back s) ≡ space_first s
unfolding drop_back
back_first [] h = refl
back_first (x ∷ s) h = rw h refl

-- a space before a text that isn't spaces alone
owed_first : (s : Text) → all is_space s ≡ false → pick (space_first s) (walk false s) (32 ∷ walk false s) ≡ walk true s
unfolding walk all
owed_first [] h = absurd (true≢false h)
owed_first (x ∷ s) h = go (is_space x) where
  go : (t : Bool) → pick t (pick t (walk true s) (x ∷ walk false s)) (32 ∷ pick t (walk true s) (x ∷ walk false s)) ≡ pick t (walk true s) (32 ∷ x ∷ walk false s)
  go true = refl
  go false = refl

-- a byte that stays, before a text of which the claim holds
kept : (t : Bool) (x : ℕ) (s : Text) → is_space x ≡ t → (t && all is_space s) ≡ false → one_space (drop_back s) ≡ walk false s → pick (t && space_first (drop_back s)) (one_space (drop_back s)) (x ∷ one_space (drop_back s)) ≡ pick t (walk true s) (x ∷ walk false s)
kept true x s e h i = rw (back_first s h, i, eqb-true x 32 e) (owed_first s h)
kept false x s e h i = rw i refl

squeezed : (s : Text) → one_space (drop_back s) ≡ walk false s
unfolding one_space drop_back walk all
squeezed [] = refl
squeezed (x ∷ s) = split (all is_space (x ∷ s)) refl (squeezed s) where
  split : (t : Bool) → all is_space (x ∷ s) ≡ t → one_space (drop_back s) ≡ walk false s → one_space (pick t [] (x ∷ drop_back s)) ≡ walk false (x ∷ s)
  split true e i = sym (spaces_alone false (x ∷ s) e)
  split false e i = kept (is_space x) x s refl e i

walk_form : (owed : Bool) (s : Text) → walk owed (lowered s) ≡ form owed s
unfolding walk form lowered
walk_form owed [] = refl
walk_form owed (x ∷ s) = rw (lower_space x, walk_form true s, walk_form false s) refl

front_lowered : (s : Text) → drop_front (lowered s) ≡ lowered (drop_front s)
unfolding drop_front lowered
front_lowered [] = refl
front_lowered (x ∷ s) = rw (lower_space x, front_lowered s) (go (is_space x)) where
  go : (t : Bool) → pick t (map lower_byte (drop_front s)) (lower_byte x ∷ map lower_byte s) ≡ map lower_byte (pick t (drop_front s) (x ∷ s))
  go true = refl
  go false = refl

pub walked : (s : Text) → normalize_string s ≡ form false (drop_front s)
unfolding normalize_string
walked s = squeezed (drop_front (lowered s)) ∙ ap (walk false) (front_lowered s) ∙ walk_form false (drop_front s)

-- ---- the steps of the walk
-- a space owed waits for the first byte that is none
unfoldable owe : Text → Text
owe [] = []
owe (x ∷ s) = 32 ∷ lower_byte x ∷ form false s

form_owe : (s : Text) → form true s ≡ owe (drop_front s)
unfolding form drop_front owe
form_owe [] = refl
form_owe (x ∷ s) = go (is_space x) (form_owe s) where
  go : (t : Bool) → form true s ≡ owe (drop_front s) → pick t (form true s) (32 ∷ lower_byte x ∷ form false s) ≡ owe (pick t (drop_front s) (x ∷ s))
  go true h = h
  go false h = refl

owed_none : (s : Text) → length s ≡ 0 → owe s ≡ []
unfolding owe
owed_none [] h = refl
owed_none (x ∷ s) h = absurd (omega arith)

-- a space owed before a text that begins with none
owed_space : (s : Text) → (length (drop_front s) ≡ 0 → ⊥) → owe (drop_front s) ≡ 32 ∷ form false (drop_front s)
unfolding drop_front form owe
owed_space [] n = absurd (n refl)
owed_space (x ∷ s) n = go (is_space x) refl n (owed_space s) where
  go : (t : Bool) → is_space x ≡ t → (length (pick t (drop_front s) (x ∷ s)) ≡ 0 → ⊥) → ((length (drop_front s) ≡ 0 → ⊥) → owe (drop_front s) ≡ 32 ∷ form false (drop_front s)) → owe (pick t (drop_front s) (x ∷ s)) ≡ 32 ∷ form false (pick t (drop_front s) (x ∷ s))
  go true e n h = h n
  go false e n h = rw e refl

front_length : (s : Text) → length (drop_front s) ≤ length s
unfolding drop_front
front_length [] = omega arith
front_length (x ∷ s) = go (is_space x) (front_length s) where
  go : (t : Bool) → length (drop_front s) ≤ length s → length (pick t (drop_front s) (x ∷ s)) ≤ length (x ∷ s)
  go true h = omega arith
  go false h = omega arith

-- ---- past the spaces
-- where the first byte stands that is no space
abbrev pub first_byte : Text → ℕ
first_byte = position_or_len (λ x. not (is_space x))

from_first : (s : Text) → drop (first_byte s) s ≡ drop_front s
unfolding drop_front
from_first [] = refl
from_first (x ∷ s) = go (is_space x) (from_first s) where
  go : (t : Bool) → drop (first_byte s) s ≡ drop_front s → drop (cond (not (not t)) (1 + first_byte s) 0) (x ∷ s) ≡ pick t (drop_front s) (x ∷ s)
  go true h = let q : 1 + first_byte s ≡ suc (first_byte s) = omega arith in rw q h
  go false h = refl

-- k is where the search for a byte that is no space ended
pub past_front : (s : Text) (k : ℕ) {r : Option ℕ} → k ≡ unwrap_or r (length s) → r ≡ cond (ltb (first_byte s) (length s)) (Some (first_byte s)) None → take (length s - k) (drop k s) ≡ drop_front s
past_front s k e t = rest k s ∙ elim (dec_lt (first_byte s) (length s)) [
  | yes l ↦ rw (e, t, lt-ltb (first_byte s) (length s) l) (from_first s)
  | no n ↦ rw (e, t, le-ltb (first_byte s) (length s) (omega arith), drop_of_length-le s {i = length s} (omega arith), ← drop_of_length-le s {i = first_byte s} (omega arith)) (from_first s)
]

-- ---- one step
pub step_end : (s : Text) → length s ≡ 0 → form false s ≡ []
unfolding form
step_end [] h = refl
step_end (x ∷ s) h = absurd (omega arith)

module _ {x : ℕ} {s after : Text} (e : IsFirstAndRest s x after) where
  pub step_byte : {b : ℕ} → (x ≡ 32 → ⊥) → b ≡ lower_byte x → (form false s ≡ b ∷ form false after) × (length after < length s)
  unfolding form
  step_byte n f = (rw (e.0, ne_eqb x 32 n, f) refl, omega (arith, e.1))

  module _ (h : x ≡ 32) {r : Text} (p : r ≡ drop_front after) where
    spaced : form false s ≡ owe r
    unfolding form
    spaced = rw (e.0, eq-eqb x 32 h, p) (form_owe after)

    -- t is whether nothing is left past the spaces
    module _ {t : Bool} (f : t ≡ eqb (length r) 0) where
      pub step_last : t ≡ true → form false s ≡ []
      step_last y = spaced ∙ owed_none r (eqb-true _ _ (sym f ∙ y))

      pub step_space : t ≡ false → (form false s ≡ 32 ∷ form false r) × (length r < length s)
      step_space y =
          let g : length (drop_front after) ≡ 0 → ⊥ = λ n. true≢false (sym (f ∙ eq-eqb (length r) 0 (rw p n)) ∙ y) in
          (spaced ∙ rw p (owed_space after g), rw p (omega (arith, e.1, front_length after)))

-- ---- two normal forms in step
module _ (a b : Text) where
  pub same_start : {p q : Text} → p ≡ drop_front a → q ≡ drop_front b → same_normal a b ≡ eq_list (form false p) (form false q)
  unfolding same_normal
  same_start e f = rw (walked a, walked b, e, f) refl

  pub same_texts : {r : Bool} → r ≡ eq_list a b → r ≡ true → true ≡ same_normal a b
  unfolding same_normal
  same_texts e y = sym (list_equal _ _ (ap normalize_string (equal_list a b (sym e ∙ y))))

-- p and q are what is left of the two
module _ (p q : Text) {whole : Bool} (w : whole ≡ eq_list (form false p) (form false q)) where
  -- the first has ended: the answer is whether the second has too
  pub one_ended : form false p ≡ [] → (r : Option Step) → Advanced q r → (t : Bool) → is_some r ≡ not t → t ≡ whole
  unfolding each
  one_ended u None v true e = sym (w ∙ rw (u, v) refl)
  one_ended u None v false e = absurd (true≢false (sym e))
  one_ended u (Some y) v true e = absurd (true≢false e)
  one_ended u (Some y) v false e = sym (w ∙ rw (u, v.0) refl)

  module _ {x : ℕ} {s : Text} (u : form false p ≡ x ∷ s) where
    pub other_ended : form false q ≡ [] → false ≡ whole
    unfolding each
    other_ended v = sym (w ∙ rw (u, v) refl)

    module _ {y : ℕ} {t : Text} (v : form false q ≡ y ∷ t) where
      pub bytes_differ : (x ≡ y → ⊥) → false ≡ whole
      unfolding each
      bytes_differ n = sym (w ∙ rw (u, v, ne_eqb x y n) refl)

      pub bytes_agree : x ≡ y → whole ≡ eq_list s t
      unfolding each
      bytes_agree n = w ∙ rw (u, v, eq-eqb x y n) refl
