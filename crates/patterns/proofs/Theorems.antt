-- What the definitions of patterns and ranges mean: laws that test them. Assumes nothing.
use Prim.Native.Nat.{ℕ, ◌+◌, ◌-◌, ◌<◌}
use native.Mathlib.Omega.{arith}
use mathlib.Core.Path.{◌≡◌, refl, sym, ap, ◌∙◌}
use mathlib.Core.Logic.{◌⊎◌, inl, inr, ⊎_elim}
use mathlib.Core.List.{List, [], ◌++◌}
use mathlib.Core.Bool.{Bool, true, false, ◌&&◌, ◌||◌, or-true}
use lib.Bits.{bit_and}
use lib.Dec.{ltb, eqb}
use lib.ListN.{length, get_or, take, length-append, get_or-append}
use lib.Seq.{take_at}
use borrow.Author.Tests.{lt-ltb, ltb-true, eq-eqb, eqb-true, not-true}
use Rattle.laws.specs.Lists.{any, each, eq_list}
use Rattle.laws.proofs.Equal.{equal_list, list_equal}
use Rattle.laws.proofs.Meaning.{every_all}
use Rattle.laws.proofs.Tests.{and_left, and_right, pick_true, pick_false}
use Rattle.ascii.specs.Bytes.{is_dot, lower_byte}
use Rattle.text.specs.Texts.{Text, quoted, lowered, starts_with, ends_with}
use Rattle.text.proofs.Theorems.{lowered_twice, then_starts, then_ends, ends_then, empty_covers}
use Rattle.patterns.specs.Patterns.{one_label, match_name, final_dot_off, clean_name, permit_name, valid_name_constraint}
use Rattle.patterns.specs.Address.{masked_equal, agrees_at, in_range, ip_addr_in_range}
use Rattle.patterns.proofs.Hosts.{lowered_clean}
use Rattle.patterns.proofs.Ranges.{each_byte}

-- ---- a pattern without a wildcard matches itself alone
pub plain_matches : (p : Text) → starts_with p (quoted "*.") ≡ false → match_name p p ≡ true
unfolding match_name
plain_matches p h = rw h (list_equal p p refl)

pub plain_only : (p n : Text) → starts_with p (quoted "*.") ≡ false → match_name p n ≡ true → p ≡ n
unfolding match_name
plain_only p n h y = equal_list p n (rw h at y)

-- ---- `*.` and then t matches t and one label before a dot and t, and nothing else
abbrev pub OneLabel : Text → Text → Type 0
OneLabel t n = (label : Text) × (n ≡ label ++ t) × (0 < length label) × (any is_dot label ≡ false)

module _ (l t : Text) where
  label_before : take (length (l ++ t) - length t) (l ++ t) ≡ l
  label_before = take_at l t (length (l ++ t) - length t) (omega (arith, length-append l t))

  means_label : 0 < length l → any is_dot l ≡ false → one_label t (l ++ t) ≡ true
  unfolding one_label
  means_label h d = rw (label_before, lt-ltb (length t) (length (l ++ t)) (omega (arith, length-append l t)), then_ends l t, d) refl

  label_dotless : one_label t (l ++ t) ≡ true → (0 < length l) × (any is_dot l ≡ false)
  unfolding one_label
  label_dotless h =
      let parts = and_left (ltb (length t) (length (l ++ t)) && ends_with (l ++ t) t) _ h in
      let longer : length t < length (l ++ t) = ltb-true _ _ (and_left (ltb (length t) (length (l ++ t))) _ parts) in
      (omega (arith, length-append l t), ap (any is_dot) (sym label_before) ∙ not-true _ (and_right (ltb (length t) (length (l ++ t)) && ends_with (l ++ t) t) _ h))

label_means : (t n : Text) → one_label t n ≡ true → OneLabel t n
label_means t n h =
    let (l, e) = ends_then n t (ending h) in
    let (k, d) = label_dotless l t (rw e at h) in
    (l, e, k, d)
  where
    ending : one_label t n ≡ true → ends_with n t ≡ true
    ending h = unfold one_label in and_right (ltb (length t) (length n)) _ (and_left (ltb (length t) (length n) && ends_with n t) _ h)

module _ (t n : Text) where
  starred : match_name (quoted "*." ++ t) n ≡ (ltb 2 (length (quoted "*." ++ t)) && (eq_list t n || one_label (quoted "." ++ t) n))
  unfolding match_name
  starred = pick_true _ _ (then_starts (quoted "*.") t)

  pub star_matches : 0 < length t → (n ≡ t) ⊎ OneLabel (quoted "." ++ t) n → match_name (quoted "*." ++ t) n ≡ true
  star_matches h w = starred ∙ rw (lt-ltb 2 (length (quoted "*." ++ t)) (omega arith)) (⊎_elim (λ e. rw (list_equal t n (sym e)) refl) (λ o. let (l, e, k, d) = o in rw (e, means_label l (quoted "." ++ t) k d) (or-true (eq_list t (l ++ (quoted "." ++ t))))) w)

  pub star_only : match_name (quoted "*." ++ t) n ≡ true → (0 < length t) × ((n ≡ t) ⊎ OneLabel (quoted "." ++ t) n)
  star_only y =
      let z = sym starred ∙ y in
      let l : 2 < length (quoted "*." ++ t) = ltb-true _ _ (and_left (ltb 2 (length (quoted "*." ++ t))) _ z) in
      (omega arith, go (eq_list t n) refl (and_right (ltb 2 (length (quoted "*." ++ t))) _ z))
    where
      go : (e : Bool) → eq_list t n ≡ e → (e || one_label (quoted "." ++ t) n) ≡ true → (n ≡ t) ⊎ OneLabel (quoted "." ++ t) n
      go true e h = inl (sym (equal_list t n e))
      go false e h = inr (label_means (quoted "." ++ t) n h)

-- ---- cleaning
-- a clean name is lowered
pub clean_lowered : (s : Text) → lowered (clean_name s) ≡ clean_name s
clean_lowered s = rw (← lowered_clean s, lowered_twice (final_dot_off s)) refl

-- cleaning twice takes a second dot off
pub clean_twice : (s : Text) → clean_name (clean_name s) ≡ final_dot_off (clean_name s)
clean_twice s = opened ∙ ap final_dot_off (clean_lowered s) where
  opened : clean_name (clean_name s) ≡ final_dot_off (lowered (clean_name s))
  opened = unfold clean_name in refl

-- and changes nothing where there is none
pub clean_stays : (s : Text) → ends_with (clean_name s) (quoted ".") ≡ false → clean_name (clean_name s) ≡ clean_name s
clean_stays s h = clean_twice s ∙ off where
  off : final_dot_off (clean_name s) ≡ clean_name s
  off = unfold final_dot_off in pick_false _ _ h

-- ---- a constraint that is empty, or one dot, covers everything for Chrome; the dot is no valid constraint
pub empty_permits : (n : Text) → permit_name [] n ≡ true
unfolding permit_name clean_name final_dot_off lowered ends_with
empty_permits n = empty_covers n

pub dot_permits : (n : Text) → permit_name (quoted ".") n ≡ true
unfolding permit_name clean_name final_dot_off lowered lower_byte ends_with each
dot_permits n = empty_covers n

pub dot_invalid : valid_name_constraint (quoted ".") ≡ false
unfolding valid_name_constraint clean_name final_dot_off lowered lower_byte ends_with each
dot_invalid = refl

-- ---- ranges: only 4 bytes lie in 8, and 16 in 32
in_lengths : (n : ℕ) (range address : List ℕ) → in_range n range address ≡ true → (length range ≡ n + n) × (length address ≡ n)
unfolding in_range
in_lengths n range address h =
    let both = and_left (eqb (length range) (n + n) && eqb (length address) n) _ h in
    (eqb-true _ _ (and_left (eqb (length range) (n + n)) _ both), eqb-true _ _ (and_right (eqb (length range) (n + n)) _ both))

pub held_lengths : (range address : List ℕ) → ip_addr_in_range range address ≡ true → ((length range ≡ 8) × (length address ≡ 4)) ⊎ ((length range ≡ 32) × (length address ≡ 16))
unfolding ip_addr_in_range
held_lengths range address h = go (in_range 4 range address) refl h where
  go : (t : Bool) → in_range 4 range address ≡ t → (t || in_range 16 range address) ≡ true → ((length range ≡ 8) × (length address ≡ 4)) ⊎ ((length range ≡ 32) × (length address ≡ 16))
  go true e h = inl (in_lengths 4 range address e)
  go false e h = inr (in_lengths 16 range address h)

-- a network lies in its own range, whatever the mask
pub network_held : (n : ℕ) (network mask : List ℕ) → length network ≡ n → length mask ≡ n → in_range n (network ++ mask) network ≡ true
network_held n network mask e f = each_byte (network ++ mask) network n (omega (arith, length-append network mask)) e ∙ every_all (agrees_at n (network ++ mask) network) (λ k. k) 0 n (λ k l m. same k m) where
  same : (k : ℕ) → k < n → agrees_at n (network ++ mask) network k ≡ true
  same k m = unfold agrees_at masked_equal in rw (get_or-append network mask 0 k (omega arith)) (eq-eqb (bit_and (get_or network k 0) (get_or (network ++ mask) (k + n) 0)) (bit_and (get_or network k 0) (get_or (network ++ mask) (k + n) 0)) refl)
