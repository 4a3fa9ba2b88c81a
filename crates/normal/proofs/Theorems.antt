-- What a normal form is: laws that test its definition. Assumes nothing.
use Prim.Native.Nat.{ℕ, zero, suc, ◌+◌, ◌<◌}
use native.Mathlib.Omega.{arith}
use native.Mathlib.Numerals.{add-one}
use mathlib.Core.Path.{◌≡◌, refl, sym, ◌∙◌}
use mathlib.Core.List.{[], ◌∷◌, map}
use mathlib.Core.Bool.{Bool, true, false, not, ◌&&◌, false≢true}
use lib.ListN.{length, get_or}
use borrow.Author.Tests.{not-true}
use Rattle.laws.specs.Lists.{pick, all, is_empty}
use Rattle.laws.proofs.Equal.{equal_list, list_equal}
use Rattle.laws.proofs.Tests.{and_left, and_right}
use Rattle.ascii.specs.Bytes.{is_space, lower_byte}
use Rattle.ascii.proofs.Chars.{lower_idempotent, lower_space}
use Rattle.text.specs.Texts.{Text, lowered}
use Rattle.normal.specs.Normal.{drop_front, drop_back, space_first, one_space, normalize_string, same_normal}
use Rattle.normal.specs.Walk.{form}
use Rattle.normal.proofs.Forms.{walked}

-- each space is followed by a byte that is none
unfoldable pub tight : Text → Bool
tight [] = true
tight (x ∷ s) = pick (is_space x) (not (is_empty s) && not (space_first s)) true && tight s

-- ---- what the walk gives
tight_byte : (x : ℕ) (s : Text) → is_space x ≡ false → tight s ≡ true → tight (lower_byte x ∷ s) ≡ true
unfolding tight
tight_byte x s e h = rw (lower_space x, e) h

tight_form : (owed : Bool) (s : Text) → tight (form owed s) ≡ true
unfolding form
tight_form owed [] = done owed where
  done : (owed : Bool) → tight [] ≡ true
  done owed = unfold tight in refl
tight_form owed (x ∷ s) = go (is_space x) refl owed (tight_form true s) (tight_form false s) where
  go : (t : Bool) → is_space x ≡ t → (owed : Bool) → tight (form true s) ≡ true → tight (form false s) ≡ true → tight (pick t (form true s) (pick owed (32 ∷ lower_byte x ∷ form false s) (lower_byte x ∷ form false s))) ≡ true
  go true e owed h k = h
  go false e false h k = tight_byte x (form false s) e k
  go false e true h k = unfold tight in rw (lower_space x, e) k

lowered_form : (owed : Bool) (s : Text) → lowered (form owed s) ≡ form owed s
unfolding form lowered
lowered_form owed [] = refl
lowered_form owed (x ∷ s) = go (is_space x) owed (lowered_form true s) (lowered_form false s) where
  go : (t owed : Bool) → map lower_byte (form true s) ≡ form true s → map lower_byte (form false s) ≡ form false s → map lower_byte (pick t (form true s) (pick owed (32 ∷ lower_byte x ∷ form false s) (lower_byte x ∷ form false s))) ≡ pick t (form true s) (pick owed (32 ∷ lower_byte x ∷ form false s) (lower_byte x ∷ form false s))
  go true owed h k = h
  go false true h k = unfold lower_byte in rw (lower_idempotent x, k) refl
  go false false h k = rw (lower_idempotent x, k) refl

first_form : (s : Text) → space_first (form false (drop_front s)) ≡ false
unfolding form drop_front
first_form [] = refl
first_form (x ∷ s) = go (is_space x) refl (first_form s) where
  go : (t : Bool) → is_space x ≡ t → space_first (form false (drop_front s)) ≡ false → space_first (form false (pick t (drop_front s) (x ∷ s))) ≡ false
  go true e h = h
  go false e h = rw e (lower_space x ∙ e)

-- ---- a tight text loses nothing
-- what follows a space in it
module _ (x : ℕ) (s : Text) (h : tight (x ∷ s) ≡ true) where
  tight_rest : tight s ≡ true
  unfolding tight
  tight_rest = and_right (pick (is_space x) (not (is_empty s) && not (space_first s)) true) (tight s) h

  module _ (e : is_space x ≡ true) where
    after : (not (is_empty s) && not (space_first s)) ≡ true
    unfolding tight
    after = and_left _ (tight s) (rw e at h)

    some_after : is_empty s ≡ false
    some_after = not-true _ (and_left (not (is_empty s)) _ after)

    byte_after : space_first s ≡ false
    byte_after = not-true _ (and_right (not (is_empty s)) _ after)

some_byte : (s : Text) → is_empty s ≡ false → space_first s ≡ false → all is_space s ≡ false
unfolding all
some_byte [] e h = absurd (false≢true (sym e))
some_byte (x ∷ s) e h = rw h refl

back_keeps : (s : Text) → tight s ≡ true → drop_back s ≡ s
unfolding drop_back all
back_keeps [] h = refl
back_keeps (x ∷ s) h = go (is_space x) refl (back_keeps s (tight_rest x s h)) where
  go : (t : Bool) → is_space x ≡ t → drop_back s ≡ s → pick (t && all is_space s) [] (x ∷ drop_back s) ≡ x ∷ s
  go true e i = rw (some_byte s (some_after x s h e) (byte_after x s h e), i) refl
  go false e i = rw i refl

runs_keep : (s : Text) → tight s ≡ true → one_space s ≡ s
unfolding one_space
runs_keep [] h = refl
runs_keep (x ∷ s) h = go (is_space x) refl (runs_keep s (tight_rest x s h)) where
  go : (t : Bool) → is_space x ≡ t → one_space s ≡ s → pick (t && space_first s) (one_space s) (x ∷ one_space s) ≡ x ∷ s
  go true e i = rw (byte_after x s h e, i) refl
  go false e i = rw i refl

front_keeps : (s : Text) → space_first s ≡ false → drop_front s ≡ s
unfolding drop_front
front_keeps [] h = refl
front_keeps (x ∷ s) h = rw h refl

-- ---- normal forms
pub normal_tight : (s : Text) → tight (normalize_string s) ≡ true
normal_tight s = rw (walked s) (tight_form false (drop_front s))

-- a normal form is lowered
pub normal_lowered : (s : Text) → lowered (normalize_string s) ≡ normalize_string s
normal_lowered s = rw (walked s) (lowered_form false (drop_front s))

-- it begins with no space
pub no_space_first : (s : Text) → space_first (normalize_string s) ≡ false
no_space_first s = rw (walked s) (first_form s)

-- no space in it is the last byte, and none stands before another
inner : (s : Text) → tight s ≡ true → (k : ℕ) → is_space (get_or s k 0) ≡ true → (k + 1 < length s) × (is_space (get_or s (k + 1) 0) ≡ false)
inner [] h k e = absurd (false≢true e)
inner (x ∷ []) h zero e = absurd (false≢true (sym (some_after x [] h e)))
inner (x ∷ y ∷ s) h zero e = (omega arith, byte_after x (y ∷ s) h e)
inner (x ∷ s) h (suc k) e = let (l, f) = inner s (tight_rest x s h) k e in (omega arith, rw add-one (rw add-one at f))

pub no_space_last_or_doubled : (s : Text) (k : ℕ) → is_space (get_or (normalize_string s) k 0) ≡ true → (k + 1 < length (normalize_string s)) × (is_space (get_or (normalize_string s) (k + 1) 0) ≡ false)
no_space_last_or_doubled s = inner (normalize_string s) (normal_tight s)

-- it is its own normal form
pub normal_twice : (s : Text) → normalize_string (normalize_string s) ≡ normalize_string s
normal_twice s = opened ∙ rw (normal_lowered s, front_keeps (normalize_string s) (no_space_first s), back_keeps (normalize_string s) (normal_tight s)) (runs_keep (normalize_string s) (normal_tight s)) where
  opened : normalize_string (normalize_string s) ≡ one_space (drop_back (drop_front (lowered (normalize_string s))))
  opened = unfold normalize_string in refl

-- spaces alone become nothing
front_spaces : (s : Text) → all is_space s ≡ true → drop_front s ≡ []
unfolding drop_front all
front_spaces [] h = refl
front_spaces (x ∷ s) h = rw (and_left (is_space x) _ h) (front_spaces s (and_right (is_space x) _ h))

pub spaces_become_nothing : (s : Text) → all is_space s ≡ true → normalize_string s ≡ []
unfolding form
spaces_become_nothing s h = rw (walked s, front_spaces s h) refl

-- the test of equal normal forms, both ways
pub same_forms : (a b : Text) → same_normal a b ≡ true → normalize_string a ≡ normalize_string b
unfolding same_normal
same_forms a b h = equal_list _ _ h

pub forms_same : (a b : Text) → normalize_string a ≡ normalize_string b → same_normal a b ≡ true
unfolding same_normal
forms_same a b h = list_equal _ _ h
