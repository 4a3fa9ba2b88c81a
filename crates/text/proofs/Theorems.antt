-- What the definitions of texts mean: laws that test them. Assumes nothing.
use Prim.Native.Nat.{◌+◌, ◌-◌}
use native.Mathlib.Omega.{arith}
use mathlib.Core.Path.{◌≡◌, refl, sym, ap, ◌∙◌}
use mathlib.Core.List.{[], ◌∷◌, ◌++◌, append-nil, append_assoc}
use mathlib.Core.Bool.{Bool, true, false, ◌||◌, or-true}
use lib.Dec.{leb}
use lib.ListN.{length, take, drop, take-append-drop, length-append}
use lib.Seq.{take-append_seam, drop_at}
use borrow.Author.Tests.{le-leb}
use Rattle.laws.specs.Lists.{eq_list}
use Rattle.laws.proofs.Equal.{equal_list, list_equal}
use Rattle.laws.proofs.Tests.{and_left, and_right}
use Rattle.ascii.specs.Bytes.{lower_byte}
use Rattle.ascii.proofs.Chars.{lower_idempotent}
use Rattle.text.specs.Texts.{Text, quoted, lowered, taken, starts_with, ends_with, covers, match_dns_name}
use Rattle.text.specs.declared.Letters.TheVariants.{AsGiven}

-- ---- lowering
pub lowered_twice : (s : Text) → lowered (lowered s) ≡ lowered s
unfolding lowered
lowered_twice [] = refl
lowered_twice (x ∷ s) = rw (lower_idempotent x) (ap (λ (t : Text). lower_byte x ∷ t) (lowered_twice s))

-- a text taken as given is the text
pub taken_as_given : (s : Text) → taken AsGiven s ≡ s
unfolding taken
taken_as_given [] = refl
taken_as_given (x ∷ s) = ap (λ (t : Text). x ∷ t) (taken_as_given s)

-- ---- beginnings and ends, both ways
pub starts_then : (s r : Text) → starts_with s r ≡ true → (t : Text) × (s ≡ r ++ t)
unfolding starts_with
starts_then s r h = (drop (length r) s, sym (take-append-drop (length r) s) ∙ ap (λ (t : Text). t ++ drop (length r) s) (sym (equal_list _ _ (and_right (leb (length r) (length s)) _ h))))

pub then_starts : (r t : Text) → starts_with (r ++ t) r ≡ true
unfolding starts_with
then_starts r t = rw (length-append r t, le-leb (length r) (length r + length t) (omega arith), take-append_seam r t) (list_equal r r refl)

pub ends_then : (s r : Text) → ends_with s r ≡ true → (t : Text) × (s ≡ t ++ r)
unfolding ends_with
ends_then s r h = (take (length s - length r) s, sym (take-append-drop (length s - length r) s) ∙ ap (λ (t : Text). take (length s - length r) s ++ t) (sym (equal_list _ _ (and_right (leb (length r) (length s)) _ h))))

pub then_ends : (t r : Text) → ends_with (t ++ r) r ≡ true
unfolding ends_with
then_ends t r = rw (length-append t r, le-leb (length r) (length t + length r) (omega arith), drop_at t r (length t + length r - length r) (omega arith)) (list_equal r r refl)

-- ---- covering
last_of : (a b : Bool) → (a || b || true) ≡ true
last_of a b = or-true (a || b)

middle_of : (a b : Bool) → (a || true || b) ≡ true
middle_of true b = refl
middle_of false b = refl

pub empty_covers : (n : Text) → covers [] n ≡ true
unfolding covers
empty_covers n = refl

pub covers_itself : (c : Text) → covers c c ≡ true
unfolding covers
covers_itself [] = refl
covers_itself (x ∷ c) = rw (then_ends [] (x ∷ c), list_equal (x ∷ c) (x ∷ c) refl) refl

-- whatever stands before a dot and the constraint is covered
pub covers_under : (t c : Text) → covers c (t ++ (quoted "." ++ c)) ≡ true
unfolding covers
covers_under t [] = refl
covers_under t (x ∷ c) = rw (then_ends t (quoted "." ++ (x ∷ c)), ← append_assoc t (quoted ".") (x ∷ c), then_ends (t ++ quoted ".") (x ∷ c)) (last_of (eq_list (x ∷ c) ((t ++ quoted ".") ++ (x ∷ c))) (starts_with (x ∷ c) (quoted ".")))

-- a constraint that begins with a dot covers whatever ends with it
pub dot_covers : (t c : Text) → covers (quoted "." ++ c) (t ++ (quoted "." ++ c)) ≡ true
unfolding covers
dot_covers t c = rw (then_ends t (quoted "." ++ c), then_starts (quoted ".") c) (middle_of (eq_list (quoted "." ++ c) (t ++ (quoted "." ++ c))) (ends_with (t ++ (quoted "." ++ c)) (quoted "." ++ (quoted "." ++ c))))

-- and nothing is covered that doesn't end with the constraint
pub covers_ends : (c n : Text) → covers c n ≡ true → ends_with n c ≡ true
unfolding covers
covers_ends [] n h = rw append-nil at (then_ends n [])
covers_ends (x ∷ c) n h = and_left (ends_with n (x ∷ c)) _ h

-- OpenSSL's covering doesn't see the case of letters
pub case_unseen : (c n : Text) → match_dns_name (lowered c) (lowered n) ≡ match_dns_name c n
unfolding match_dns_name
case_unseen c n = rw (lowered_twice c, lowered_twice n) refl
