-- Two lists in step, told by numbers: rows compared number by number, and tests that follow from one another. Assumes nothing.
use Prim.Native.Nat.{ℕ, zero, suc, ◌+◌, ◌-◌, ◌≤◌, ◌<◌}
use native.Mathlib.Omega.{arith}
use native.Mathlib.Nat.{add-zero, sub-zero}
use mathlib.Core.Path.{◌≡◌, refl, sym, ap, ◌∙◌}
use mathlib.Core.List.{List, [], ◌∷◌}
use mathlib.Core.Bool.{Bool, true, false, ◌&&◌, ◌||◌, or-true, and-false, false≢true}
use lib.ListN.{length}
use Rattle.laws.specs.Lists.{run, rows, numbers, any, all, each, front}
use Rattle.laws.proofs.Equal.{each_length}
use Rattle.laws.proofs.Rows.{rows_length}
use Rattle.laws.proofs.Tests.{and_left, and_right}

-- ---- a test that follows from another
module _ {A : Type 0} {p q : A → Bool} (f : (x : A) → p x ≡ true → q x ≡ true) where
  pub any_follows : (l : List A) → any p l ≡ true → any q l ≡ true
  unfolding any
  any_follows [] h = h
  any_follows (x ∷ l) h = go (p x) refl (any_follows l) h where
    go : (t : Bool) → p x ≡ t → (any p l ≡ true → any q l ≡ true) → (t || any p l) ≡ true → (q x || any q l) ≡ true
    go true e i h = rw (f x e) refl
    go false e i h = rw (i h) (or-true (q x))

  pub all_follows : (l : List A) → all p l ≡ true → all q l ≡ true
  unfolding all
  all_follows [] h = refl
  all_follows (x ∷ l) h = rw (f x (and_left _ _ h)) (all_follows l (and_right (p x) _ h))

module _ {A B : Type 0} {p q : A → B → Bool} (f : (x : A) (y : B) → p x y ≡ true → q x y ≡ true) where
  pub each_follows : (a : List A) (b : List B) → each p a b ≡ true → each q a b ≡ true
  unfolding each
  each_follows [] [] h = refl
  each_follows [] (y ∷ b) h = h
  each_follows (x ∷ a) [] h = h
  each_follows (x ∷ a) (y ∷ b) h = rw (f x y (and_left _ _ h)) (each_follows a b (and_right (p x y) _ h))

  pub front_follows : (a : List A) (b : List B) → front p a b ≡ true → front q a b ≡ true
  unfolding front
  front_follows [] b h = refl
  front_follows (x ∷ a) [] h = h
  front_follows (x ∷ a) (y ∷ b) h = rw (f x y (and_left _ _ h)) (front_follows a b (and_right (p x y) _ h))

  -- lists that agree begin one another
  pub each_front : (a : List A) (b : List B) → each p a b ≡ true → front q a b ≡ true
  unfolding each front
  each_front [] b h = refl
  each_front (x ∷ a) [] h = h
  each_front (x ∷ a) (y ∷ b) h = rw (f x y (and_left _ _ h)) (each_front a b (and_right (p x y) _ h))

-- ---- a list that may be shorter keeps what its test has
module _ {A : Type 0} (p : A → A → Bool) where
  pub front_refl : ((x : A) → p x x ≡ true) → (a : List A) → front p a a ≡ true
  unfolding front
  front_refl r [] = refl
  front_refl r (x ∷ a) = rw (r x) (front_refl r a)

  pub front_trans : ((x y z : A) → p x y ≡ true → p y z ≡ true → p x z ≡ true) → (a b c : List A) → front p a b ≡ true → front p b c ≡ true → front p a c ≡ true
  unfolding front
  front_trans t [] b c h k = refl
  front_trans t (x ∷ a) [] c h k = absurd (false≢true h)
  front_trans t (x ∷ a) (y ∷ b) [] h k = k
  front_trans t (x ∷ a) (y ∷ b) (z ∷ c) h k = rw (t x y z (and_left _ _ h) (and_left _ _ k)) (front_trans t a b c (and_right (p x y) _ h) (and_right (p y z) _ k))

-- of equally long lists it asks what agreement asks
pub each_is_front : {A B : Type 0} (p : A → B → Bool) (a : List A) (b : List B) → length a ≡ length b → each p a b ≡ front p a b
unfolding each front
each_is_front p [] [] l = refl
each_is_front p [] (y ∷ b) l = absurd (omega arith)
each_is_front p (x ∷ a) [] l = absurd (omega arith)
each_is_front p (x ∷ a) (y ∷ b) l = ap (λ (t : Bool). p x y && t) (each_is_front p a b (omega arith))

-- it fails where the first list is longer
pub front_long : {A B : Type 0} (p : A → B → Bool) (a : List A) (b : List B) → length b < length a → front p a b ≡ false
unfolding front
front_long p [] b l = absurd (omega arith)
front_long p (x ∷ a) [] l = refl
front_long p (x ∷ a) (y ∷ b) l = rw (front_long p a b (omega arith)) (and-false (p x y))

-- ---- rows of two ranges, compared number by number
module _ {A B : Type 0} (p : A → B → Bool) (g : ℕ → A) (h : ℕ → B) (a e f t : ℕ) where
  run_pairs : (c k m : ℕ) → k ≤ m → front p (run g (a + c) k) (run h (f + c) m) ≡ all (λ i. p (g (a + i)) (h (f + i))) (run (λ i. i) c k)
  unfolding front all run
  run_pairs c zero m l = refl
  run_pairs c (suc k) zero l = absurd (omega arith)
  run_pairs c (suc k) (suc m) l =
      let u : a + c + 1 ≡ a + (c + 1) = omega arith in
      let v : f + c + 1 ≡ f + (c + 1) = omega arith in
      rw (u, v, run_pairs (c + 1) k m (omega arith)) refl

  -- n is the length of the first, m that of the second
  module _ {n m : ℕ} (q : n ≡ e - a) (r : m ≡ t - f) where
    pub front_pairs : n ≤ m → front p (rows g a e) (rows h f t) ≡ all (λ i. p (g (a + i)) (h (f + i))) (numbers 0 n)
    unfolding rows
    front_pairs l = rw (← q, ← r, sub-zero) (rw (add-zero, add-zero) at (run_pairs 0 n m l))

    pub front_longer : m < n → false ≡ front p (rows g a e) (rows h f t)
    front_longer l = sym (front_long p (rows g a e) (rows h f t) (omega (arith, rows_length g a e, rows_length h f t)))

    pub each_pairs : n ≡ m → each p (rows g a e) (rows h f t) ≡ all (λ i. p (g (a + i)) (h (f + i))) (numbers 0 n)
    each_pairs l = each_is_front p (rows g a e) (rows h f t) (rows_length g a e ∙ sym q ∙ l ∙ r ∙ sym (rows_length h f t)) ∙ front_pairs (omega arith)

    pub each_unequal : (n ≡ m → ⊥) → false ≡ each p (rows g a e) (rows h f t)
    each_unequal l = sym (each_length p (rows g a e) (rows h f t) (λ s. l (q ∙ sym (rows_length g a e) ∙ s ∙ rows_length h f t ∙ sym r)))
