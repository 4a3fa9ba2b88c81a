-- Lists of rows, and tests of them. Nothing here knows a bundle. Assumes nothing.
use Rattle.std.specs.Prelude.{ℕ, zero, suc, ◌+◌, ◌-◌, ◌≤◌, ◌<◌, ◌≡◌, List, [], ◌∷◌, Bool, true, false, ◌&&◌, ◌||◌, eqb}

-- one of two by a test
abbrev pub pick : {A : Type 0} → Bool → A → A → A
pick true a b = a
pick false a b = b

-- g a, g (a + 1), .., k of them
unfoldable pub run : {A : Type 0} → (ℕ → A) → ℕ → ℕ → List A
run g a zero = []
run g a (suc k) = g a ∷ run g (a + 1) k

-- g a, g (a + 1), .., g (e - 1)
unfoldable pub rows : {A : Type 0} → (ℕ → A) → ℕ → ℕ → List A
rows g a e = run g a (e - a)

-- the numbers from a up to, and without, e
abbrev pub numbers : ℕ → ℕ → List ℕ
numbers = rows (λ n. n)

-- some element passes
unfoldable pub any : {A : Type 0} → (A → Bool) → List A → Bool
any p [] = false
any p (x ∷ xs) = p x || any p xs

-- each element passes
unfoldable pub all : {A : Type 0} → (A → Bool) → List A → Bool
all p [] = true
all p (x ∷ xs) = p x && all p xs

-- as many elements as partners, and each passes with its partner
unfoldable pub each : {A B : Type 0} → (A → B → Bool) → List A → List B → Bool
each p [] [] = true
each p [] (y ∷ ys) = false
each p (x ∷ xs) [] = false
each p (x ∷ xs) (y ∷ ys) = p x y && each p xs ys

-- no more elements than partners, and each passes with its partner
unfoldable pub front : {A B : Type 0} → (A → B → Bool) → List A → List B → Bool
front p [] ys = true
front p (x ∷ xs) [] = false
front p (x ∷ xs) (y ∷ ys) = p x y && front p xs ys

-- the first of k numbers from a on that passes, and a + k where none does
unfoldable pub first : (ℕ → Bool) → ℕ → ℕ → ℕ
first p a zero = a
first p a (suc k) = pick (p a) a (first p (a + 1) k)

-- the least number from a up to e that passes, and e where none does (a where e lies below it)
unfoldable pub least : (ℕ → Bool) → ℕ → ℕ → ℕ
least p a e = first p a (e - a)

-- the list has no element
abbrev pub is_empty : {A : Type 0} → List A → Bool
is_empty [] = true
is_empty (x ∷ xs) = false

-- equal lists of numbers, as a test
abbrev pub eq_list : List ℕ → List ℕ → Bool
eq_list = each eqb

-- ---- what the tests mean

-- some number from a up to e passes
abbrev pub Some : (ℕ → Bool) → ℕ → ℕ → Type 0
Some p a e = (k : ℕ) × (a ≤ k) × (k < e) × (p k ≡ true)

-- every number from a up to e passes
abbrev pub Every : (ℕ → Bool) → ℕ → ℕ → Type 0
Every p a e = (k : ℕ) → a ≤ k → k < e → p k ≡ true

-- m is the least number from a up to e that passes, or e where none does
pub record Least (p : ℕ → Bool) (a e m : ℕ) : Type 0 where
  pub low : a ≤ m
  pub high : m ≤ e
  pub passes : m < e → p m ≡ true
  pub before : (k : ℕ) → a ≤ k → k < m → p k ≡ false
