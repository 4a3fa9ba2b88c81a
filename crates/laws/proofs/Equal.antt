-- Two lists in step: what agreement of each with its partner means, and equality of lists of numbers as a test. Assumes nothing.
use Prim.Native.Nat.{ℕ, zero, suc, ◌≤◌, ◌<◌}
use native.Mathlib.Omega.{arith}
use mathlib.Core.Path.{◌≡◌, refl, ap, ap₂}
use mathlib.Core.List.{List, [], ◌∷◌, map}
use mathlib.Core.Bool.{Bool, true, false, ◌&&◌, and-false, false≢true}
use borrow.Author.Tests.{eq-eqb, eqb-true}
use lib.Dec.{eqb}
use lib.ListN.{length, get_or}
use Rattle.laws.specs.Lists.{each, front, eq_list}
use Rattle.laws.proofs.Tests.{and_left, and_right}

module _ {A B : Type 0} (p : A → B → Bool) where
  pub each_length : (a : List A) (b : List B) → (length a ≡ length b → ⊥) → each p a b ≡ false
  unfolding each
  each_length [] [] h = absurd (h refl)
  each_length [] (y ∷ ys) h = refl
  each_length (x ∷ xs) [] h = refl
  each_length (x ∷ xs) (y ∷ ys) h = rw (each_length xs ys (λ e. h (ap suc e))) (and-false (p x y))

  -- lists that agree are equally long, and agree at each index
  pub each_lengths : (a : List A) (b : List B) → each p a b ≡ true → length a ≡ length b
  unfolding each
  each_lengths [] [] h = refl
  each_lengths [] (y ∷ b) h = absurd (false≢true h)
  each_lengths (x ∷ a) [] h = absurd (false≢true h)
  each_lengths (x ∷ a) (y ∷ b) h = ap suc (each_lengths a b (and_right (p x y) _ h))

  module _ (d : A) (f : B) where
    pub each_index : (a : List A) (b : List B) → each p a b ≡ true → (k : ℕ) → k < length a → p (get_or a k d) (get_or b k f) ≡ true
    unfolding each
    each_index [] [] h k l = absurd (omega arith)
    each_index [] (y ∷ b) h k l = absurd (omega arith)
    each_index (x ∷ a) [] h k l = absurd (false≢true h)
    each_index (x ∷ a) (y ∷ b) h zero l = and_left _ _ h
    each_index (x ∷ a) (y ∷ b) h (suc k) l = each_index a b (and_right (p x y) _ h) k (omega arith)

    pub index_each : (a : List A) (b : List B) → length a ≡ length b → ((k : ℕ) → k < length a → p (get_or a k d) (get_or b k f) ≡ true) → each p a b ≡ true
    unfolding each
    index_each [] [] e h = refl
    index_each [] (y ∷ b) e h = absurd (omega arith)
    index_each (x ∷ a) [] e h = absurd (omega arith)
    index_each (x ∷ a) (y ∷ b) e h = rw (h zero (omega arith)) (index_each a b (omega arith) (λ k l. h (suc k) (omega arith)))

    -- the same of a list that may be shorter than its partner
    pub front_index : (a : List A) (b : List B) → front p a b ≡ true → (length a ≤ length b) × ((k : ℕ) → k < length a → p (get_or a k d) (get_or b k f) ≡ true)
    unfolding front
    front_index [] b h = (omega arith, λ k l. absurd (omega arith))
    front_index (x ∷ a) [] h = absurd (false≢true h)
    front_index (x ∷ a) (y ∷ b) h = let (l, q) = front_index a b (and_right (p x y) _ h) in (omega arith, at_each (and_left (p x y) _ h) q) where
      at_each : p x y ≡ true → ((k : ℕ) → k < length a → p (get_or a k d) (get_or b k f) ≡ true) → (k : ℕ) → k < length (x ∷ a) → p (get_or (x ∷ a) k d) (get_or (y ∷ b) k f) ≡ true
      at_each e q zero l = e
      at_each e q (suc k) l = q k (omega arith)

    pub index_front : (a : List A) (b : List B) → length a ≤ length b → ((k : ℕ) → k < length a → p (get_or a k d) (get_or b k f) ≡ true) → front p a b ≡ true
    unfolding front
    index_front [] b l h = refl
    index_front (x ∷ a) [] l h = absurd (omega arith)
    index_front (x ∷ a) (y ∷ b) l h = rw (h zero (omega arith)) (index_front a b (omega arith) (λ k m. h (suc k) (omega arith)))

-- lists that are changed first, one by one, are compared by a changed test
pub each_map : {A B C D : Type 0} (p : C → D → Bool) (f : A → C) (g : B → D) (a : List A) (b : List B) → each p (map f a) (map g b) ≡ each (λ x y. p (f x) (g y)) a b
unfolding each
each_map p f g [] [] = refl
each_map p f g [] (y ∷ b) = refl
each_map p f g (x ∷ a) [] = refl
each_map p f g (x ∷ a) (y ∷ b) = ap (λ (t : Bool). p (f x) (g y) && t) (each_map p f g a b)

-- ---- agreement of each keeps what its test has
module _ {A : Type 0} (p : A → A → Bool) where
  pub each_refl : ((x : A) → p x x ≡ true) → (a : List A) → each p a a ≡ true
  unfolding each
  each_refl r [] = refl
  each_refl r (x ∷ a) = rw (r x) (each_refl r a)

  pub each_sym : ((x y : A) → p x y ≡ p y x) → (a b : List A) → each p a b ≡ each p b a
  unfolding each
  each_sym s [] [] = refl
  each_sym s [] (y ∷ b) = refl
  each_sym s (x ∷ a) [] = refl
  each_sym s (x ∷ a) (y ∷ b) = ap₂ ◌&&◌ (s x y) (each_sym s a b)

  pub each_trans : ((x y z : A) → p x y ≡ true → p y z ≡ true → p x z ≡ true) → (a b c : List A) → each p a b ≡ true → each p b c ≡ true → each p a c ≡ true
  unfolding each
  each_trans t [] [] c h k = k
  each_trans t [] (y ∷ b) c h k = absurd (false≢true h)
  each_trans t (x ∷ a) [] c h k = absurd (false≢true h)
  each_trans t (x ∷ a) (y ∷ b) [] h k = k
  each_trans t (x ∷ a) (y ∷ b) (z ∷ c) h k = rw (t x y z (and_left _ _ h) (and_left _ _ k)) (each_trans t a b c (and_right (p x y) _ h) (and_right (p y z) _ k))

-- ---- equality as a test, both ways
pub equal_list : (a b : List ℕ) → eq_list a b ≡ true → a ≡ b
unfolding each
equal_list [] [] h = refl
equal_list [] (y ∷ b) h = absurd (false≢true h)
equal_list (x ∷ a) [] h = absurd (false≢true h)
equal_list (x ∷ a) (y ∷ b) h = ap₂ ◌∷◌ (eqb-true x y (and_left _ _ h)) (equal_list a b (and_right (eqb x y) _ h))

pub list_equal : (a b : List ℕ) → a ≡ b → eq_list a b ≡ true
list_equal a b e = rw (← e) (each_refl eqb (λ x. eq-eqb x x refl) a)
