-- What a word of 0 leaves out: a part that is absent, and one that is there. Assumes nothing.
use Prim.Native.Nat.{ℕ}
use mathlib.Core.Path.{◌≡◌, refl, sym, ap, ◌∙◌}
use mathlib.Core.Bool.{Bool, true, false, not, ◌&&◌, ◌||◌, not-not}
use mathlib.Core.Option.{Option, none, some}
use lib.Dec.{eqb}
use borrow.Author.Tests.{eq-eqb, ne_eqb}
use Rattle.laws.specs.Lists.{pick}
use Rattle.laws.specs.Optional.{if_there, there_and, is_there}
use Rattle.model.specs.Decode.{unless_zero}

module _ {A : Type 0} (c : ℕ) (x : A) where
  pub absent : c ≡ 0 → unless_zero c x ≡ none
  unfolding unless_zero
  absent e = rw (eq-eqb c 0 e) refl

  pub present : (c ≡ 0 → ⊥) → unless_zero c x ≡ some x
  unfolding unless_zero
  present e = rw (ne_eqb c 0 e) refl

  -- the word says whether it is there
  told : (t : Bool) → not t ≡ is_there (pick t none (some x))
  told true = refl
  told false = refl

  pub there_is : not (eqb c 0) ≡ is_there (unless_zero c x)
  unfolding unless_zero
  there_is = told (eqb c 0)

  module _ (p : A → Bool) where
    pub absent_passes : c ≡ 0 → true ≡ if_there p (unless_zero c x)
    absent_passes e = rw (absent e) refl

    pub present_passes : {r : Bool} → (c ≡ 0 → ⊥) → r ≡ p x → r ≡ if_there p (unless_zero c x)
    present_passes e h = h ∙ rw (present e) refl

    pub absent_fails : c ≡ 0 → false ≡ there_and p (unless_zero c x)
    absent_fails e = rw (absent e) refl

    pub present_and : {r : Bool} → (c ≡ 0 → ⊥) → r ≡ p x → r ≡ there_and p (unless_zero c x)
    present_and e h = h ∙ rw (present e) refl

-- a part x, there unless the word w is 0; c is the word as it was read
module _ {A : Type 0} (w : ℕ) (x : A) {c : ℕ} (e : c ≡ w) where
  pub is_there_law : not (eqb c 0) ≡ is_there (unless_zero w x)
  is_there_law = rw e (there_is w x)

  pub is_absent : eqb c 0 ≡ not (is_there (unless_zero w x))
  is_absent = sym (not-not (eqb c 0)) ∙ ap not is_there_law

  -- r is what the part answers
  module _ (p : A → Bool) {r : Bool} (h : r ≡ p x) where
    pub passes : (eqb c 0 || r) ≡ if_there p (unless_zero w x)
    unfolding unless_zero
    passes = rw (e, h) (go (eqb w 0)) where
      go : (t : Bool) → (t || p x) ≡ if_there p (pick t none (some x))
      go true = refl
      go false = refl

    pub there_passes : (not (eqb c 0) && r) ≡ there_and p (unless_zero w x)
    unfolding unless_zero
    there_passes = rw (e, h) (go (eqb w 0)) where
      go : (t : Bool) → (not t && p x) ≡ there_and p (pick t none (some x))
      go true = refl
      go false = refl

-- a part that was handed back, or was not
module _ {A : Type 0} (p : A → Bool) {o : Option A} where
  pub none_passes : o ≡ none → true ≡ if_there p o
  none_passes e = rw e refl

  pub some_passes : {x : A} {r : Bool} → o ≡ some x → r ≡ p x → r ≡ if_there p o
  some_passes e h = rw e h
