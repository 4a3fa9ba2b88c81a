-- Tests put together, and taken apart. Assumes nothing.
use Prim.Native.Nat.{ℕ}
use mathlib.Core.Path.{◌≡◌, refl, sym, ◌∙◌}
use mathlib.Core.Logic.{◌⊎◌, inl, inr, ⊎_elim, ◌↔◌}
use mathlib.Core.Bool.{Bool, true, false, ◌&&◌, ◌||◌, false≢true, true≢false, or-true}
use lib.Dec.{eqb}
use borrow.Author.Tests.{eq-eqb, ne_eqb, eqb-true, eqb-false}
use Rattle.laws.specs.Lists.{pick}

-- a contract that is an equation allows one answer only
pub one_answer : {A : Type 0} {r s e : A} → r ≡ e → s ≡ e → r ≡ s
one_answer p q = p ∙ sym q

-- r answers p and s answers q: what `p && q` and `p || q` answer
module _ {r p : Bool} (e : r ≡ p) where
  pub and_then : {s q : Bool} → r ≡ true → s ≡ q → s ≡ (p && q)
  and_then y t = rw (← e, y) t

  pub and_stop : (q : Bool) → r ≡ false → false ≡ (p && q)
  and_stop q y = rw (← e, y) refl

  pub or_then : {s q : Bool} → r ≡ false → s ≡ q → s ≡ (p || q)
  or_then y t = rw (← e, y) t

  pub or_stop : (q : Bool) → r ≡ true → true ≡ (p || q)
  or_stop q y = rw (← e, y) refl

-- a test that chooses between two others
pub pick_true : {A : Type 0} {t : Bool} (a b : A) → t ≡ true → pick t a b ≡ a
pick_true a b e = rw e refl

pub pick_false : {A : Type 0} {t : Bool} (a b : A) → t ≡ false → pick t a b ≡ b
pick_false a b e = rw e refl

-- both halves of an `&&` that holds
pub and_left : (p q : Bool) → (p && q) ≡ true → p ≡ true
and_left true q h = refl
and_left false q h = h

pub and_right : (p q : Bool) → (p && q) ≡ true → q ≡ true
and_right true q h = h
and_right false q h = absurd (false≢true h)

-- both halves of an `||` that doesn't hold
pub or_left : (p q : Bool) → (p || q) ≡ false → p ≡ false
or_left true q h = absurd (true≢false h)
or_left false q h = refl

pub or_right : (p q : Bool) → (p || q) ≡ false → q ≡ false
or_right true q h = absurd (true≢false h)
or_right false q h = h

-- what they mean, by what their halves mean
module _ {x y : Bool} {A B : Type 0} (p : (x ≡ true) ↔ A) (q : (y ≡ true) ↔ B) where
  pub and_means : ((x && y) ≡ true) ↔ (A × B)
  and_means = (λ h. (p.0 (and_left x y h), q.0 (and_right x y h)), λ h. rw (p.1 h.0) (q.1 h.1))

  pub or_means : ((x || y) ≡ true) ↔ (A ⊎ B)
  or_means = (λ h. split x refl h, ⊎_elim (λ a. rw (p.1 a) refl) (λ b. rw (q.1 b) (or-true x))) where
    split : (t : Bool) → x ≡ t → (t || y) ≡ true → A ⊎ B
    split true e h = inl (p.0 e)
    split false e h = inr (q.0 h)

-- equality of numbers is asked either way round
pub eqb_sym : (a b : ℕ) → eqb a b ≡ eqb b a
eqb_sym a b = go (eqb a b) refl where
  go : (t : Bool) → eqb a b ≡ t → t ≡ eqb b a
  go true h = sym (eq-eqb b a (sym (eqb-true a b h)))
  go false h = sym (ne_eqb b a (λ e. eqb-false a b h (sym e)))
