-- Parts of a list: the first and the last elements, as code lends them. Assumes nothing.
use Prim.Native.Nat.{ℕ, zero, suc, ◌-◌}
use native.Mathlib.Omega.{arith}
use mathlib.Core.Path.{◌≡◌, refl, sym, ap}
use mathlib.Core.List.{List, [], ◌∷◌, map}
use lib.ListN.{length, take, drop, length-drop}
use lib.Seq.{take_all}
use lib.Dec.{eqb, eqb-suc-zero}
use Rattle.laws.specs.Lists.{is_empty}

-- `&l[at..]`, as the code has it
pub rest : {A : Type 0} (at : ℕ) (l : List A) → take (length l - at) (drop at l) ≡ drop at l
rest at l = take_all (length l - at) (drop at l) (omega (arith, length-drop at l))

-- parts of a list that is changed one by one
module _ {A B : Type 0} (f : A → B) where
  pub map_drop : (k : ℕ) (l : List A) → drop k (map f l) ≡ map f (drop k l)
  map_drop zero [] = refl
  map_drop zero (x ∷ l) = refl
  map_drop (suc k) [] = refl
  map_drop (suc k) (x ∷ l) = map_drop k l

  pub map_take : (k : ℕ) (l : List A) → take k (map f l) ≡ map f (take k l)
  map_take zero [] = refl
  map_take zero (x ∷ l) = refl
  map_take (suc k) [] = refl
  map_take (suc k) (x ∷ l) = ap (λ (t : List B). f x ∷ t) (map_take k l)

-- a list without elements, told by its length
pub empty_length : {A : Type 0} (l : List A) → is_empty l ≡ eqb (length l) 0
empty_length [] = refl
empty_length (x ∷ l) = sym (eqb-suc-zero (length l))
