-- What the tests of a list mean, in both directions: some index, every index, the least number. Assumes nothing.
use Prim.Native.Nat.{ℕ, zero, suc, ◌+◌, ◌-◌, ◌≤◌, ◌<◌}
use native.Mathlib.Omega.{arith}
use native.Mathlib.Decide.{dec_lt}
use mathlib.Core.Path.{◌≡◌, refl, sym, ap, ◌∙◌}
use mathlib.Core.List.{List, [], ◌∷◌, map}
use mathlib.Core.Bool.{Bool, true, false, not, ◌&&◌, ◌||◌, true≢false, false≢true, or-true}
use lib.ListN.{length, get_or}
use Rattle.laws.specs.Lists.{run, rows, any, all, first, least, pick, Some, Every, Least}
use Rattle.laws.proofs.Rows.{at, list_rows}
use Rattle.laws.proofs.Tests.{and_left, and_right}

module _ {A : Type 0} (p : A → Bool) (g : ℕ → A) where
  run_some : (a k : ℕ) → any p (run g a k) ≡ true → Some (λ n. p (g n)) a (a + k)
  unfolding any run
  run_some a zero y = absurd (false≢true y)
  run_some a (suc k) y = go (p (g a)) refl (run_some (a + 1) k) y where
    go : (t : Bool) → p (g a) ≡ t → (any p (run g (a + 1) k) ≡ true → Some (λ n. p (g n)) (a + 1) (a + 1 + k)) → (t || any p (run g (a + 1) k)) ≡ true → Some (λ n. p (g n)) a (a + suc k)
    go true e s y = (a, omega arith, omega arith, e)
    go false e s y = let (n, l, m, f) = s y in (n, omega arith, omega arith, f)

  some_run : (a k n : ℕ) → a ≤ n → n < a + k → p (g n) ≡ true → any p (run g a k) ≡ true
  unfolding any run
  some_run a zero n l m y = absurd (omega arith)
  some_run a (suc k) n l m y = elim (dec_lt a n) [ yes h ↦ rw (some_run (a + 1) k n (omega arith) (omega arith) y) (or-true (p (g a))) | no h ↦ let q : a ≡ n = omega arith in rw (q, y) refl ]

  run_every : (a k : ℕ) → all p (run g a k) ≡ true → Every (λ n. p (g n)) a (a + k)
  unfolding all run
  run_every a zero y n l m = absurd (omega arith)
  run_every a (suc k) y n l m = elim (dec_lt a n) [ yes h ↦ run_every (a + 1) k (and_right (p (g a)) _ y) n (omega arith) (omega arith) | no h ↦ let q : n ≡ a = omega arith in rw q (and_left _ _ y) ]

  every_run : (a k : ℕ) → Every (λ n. p (g n)) a (a + k) → all p (run g a k) ≡ true
  unfolding all run
  every_run a zero y = refl
  every_run a (suc k) y = rw (y a (omega arith) (omega arith)) (every_run (a + 1) k (λ n l m. y n (omega arith) (omega arith)))

  -- ---- over numbers
  module _ (a e : ℕ) where
    pub any_some : any p (rows g a e) ≡ true → Some (λ n. p (g n)) a e
    unfolding rows
    any_some y = let (n, l, m, f) = run_some a (e - a) y in (n, l, omega arith, f)

    pub some_any : Some (λ n. p (g n)) a e → any p (rows g a e) ≡ true
    unfolding rows
    some_any s = some_run a (e - a) s.0 s.1 (omega arith) s.3

    pub all_every : all p (rows g a e) ≡ true → Every (λ n. p (g n)) a e
    unfolding rows
    all_every y n l m = run_every a (e - a) y n l (omega arith)

    pub every_all : Every (λ n. p (g n)) a e → all p (rows g a e) ≡ true
    unfolding rows
    every_all y = every_run a (e - a) (λ n l m. y n l (omega arith))

-- ---- over the elements of a list, by their index; d stands for what lies past the end and is never asked
module _ {A : Type 0} (d : A) (p : A → Bool) (l : List A) where
  pub any_index : any p l ≡ true → Some (λ n. p (get_or l n d)) 0 (length l)
  unfolding at
  any_index y = any_some p (at d l) 0 (length l) (rw (list_rows d l) y)

  pub index_any : Some (λ n. p (get_or l n d)) 0 (length l) → any p l ≡ true
  unfolding at
  index_any s = rw (list_rows d l) at (some_any p (at d l) 0 (length l) s)

  pub all_index : all p l ≡ true → Every (λ n. p (get_or l n d)) 0 (length l)
  unfolding at
  all_index y = all_every p (at d l) 0 (length l) (rw (list_rows d l) y)

  pub index_all : Every (λ n. p (get_or l n d)) 0 (length l) → all p l ≡ true
  unfolding at
  index_all y = rw (list_rows d l) at (every_all p (at d l) 0 (length l) y)

-- none passes exactly if each fails
pub not_any : {A : Type 0} (p : A → Bool) (l : List A) → not (any p l) ≡ all (λ x. not (p x)) l
unfolding any all
not_any p [] = refl
not_any p (x ∷ l) = split (p x) (not_any p l) where
  split : (t : Bool) → not (any p l) ≡ all (λ x. not (p x)) l → not (t || any p l) ≡ (not t && all (λ x. not (p x)) l)
  split true e = refl
  split false e = e

-- tests that agree at each element agree on the list
module _ {A : Type 0} {p q : A → Bool} (e : (x : A) → p x ≡ q x) where
  pub any_agree : (l : List A) → any p l ≡ any q l
  unfolding any
  any_agree [] = refl
  any_agree (x ∷ l) = rw (e x, any_agree l) refl

  pub all_agree : (l : List A) → all p l ≡ all q l
  unfolding all
  all_agree [] = refl
  all_agree (x ∷ l) = rw (e x, all_agree l) refl

-- a list that is changed first, one by one, is tested by a changed test
module _ {A B : Type 0} (p : B → Bool) (f : A → B) where
  pub any_map : (l : List A) → any p (map f l) ≡ any (λ x. p (f x)) l
  unfolding any
  any_map [] = refl
  any_map (x ∷ l) = ap (λ (t : Bool). p (f x) || t) (any_map l)

  pub all_map : (l : List A) → all p (map f l) ≡ all (λ x. p (f x)) l
  unfolding all
  all_map [] = refl
  all_map (x ∷ l) = ap (λ (t : Bool). p (f x) && t) (all_map l)

-- ---- the least number that passes
module _ (p : ℕ → Bool) where
  first_least : (a k : ℕ) → Least p a (a + k) (first p a k)
  unfolding first
  first_least a zero = record { low = omega arith; high = omega arith; passes = λ m. absurd (omega arith); before = λ k l m. absurd (omega arith) }
  first_least a (suc k) = go (p a) refl (first_least (a + 1) k) where
    go : (t : Bool) → p a ≡ t → Least p (a + 1) (a + 1 + k) (first p (a + 1) k) → Least p a (a + suc k) (pick t a (first p (a + 1) k))
    go true e s = record { low = omega arith; high = omega arith; passes = λ m. e; before = λ k l m. absurd (omega arith) }
    go false e s = record { low = omega arith; high = omega arith; passes = λ m. s.passes (omega arith); before = λ n l m. elim (dec_lt a n) [ yes h ↦ s.before n (omega arith) m | no h ↦ let q : n ≡ a = omega arith in rw q e ] }

  pub least_is : (a e : ℕ) → a ≤ e → Least p a e (least p a e)
  unfolding least
  least_is a e h = let q : a + (e - a) ≡ e = omega arith in rw q at (first_least a (e - a))

  pub least_only : {a e m n : ℕ} → Least p a e m → Least p a e n → m ≡ n
  least_only {a} {e} {m} {n} s t = elim (dec_lt m n) [ yes h ↦ absurd (true≢false (sym (s.passes (omega (arith, t.high))) ∙ t.before m s.low h)) | no h ↦ elim (dec_lt n m) [ yes k ↦ absurd (true≢false (sym (t.passes (omega (arith, s.high))) ∙ s.before n t.low k)) | no k ↦ omega arith ] ]
