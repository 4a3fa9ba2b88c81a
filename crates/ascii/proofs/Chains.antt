-- What a chain over the bytes of a text answers: `any` and `all` of std are those of laws. Assumes nothing.
use mathlib.Core.Path.{◌≡◌, refl, sym, ap, ◌∙◌}
use mathlib.Core.Bool.{Bool, false, ◌&&◌, ◌||◌, or-false, or_assoc}
use mathlib.Core.List.{List, [], ◌∷◌}
use Rattle.std.specs.List.{list_any, list_all, fold}
use Rattle.laws.specs.Lists.{any, all}

module _ {A : Type 0} (p : A → Bool) where
  pub any_of_list : (s : List A) → list_any p s ≡ any p s
  unfolding any
  any_of_list [] = refl
  any_of_list (x ∷ s) = ap (λ b. p x || b) (any_of_list s)

  pub all_of_list : (s : List A) → list_all p s ≡ all p s
  unfolding all
  all_of_list [] = refl
  all_of_list (x ∷ s) = ap (λ b. p x && b) (all_of_list s)

  -- a chain without a way out counts what was found so far
  counted : (found : Bool) (s : List A) → fold (λ (t : Bool) (x : A). t || p x) found s ≡ (found || any p s)
  unfolding any
  counted found [] = sym (or-false found)
  counted found (x ∷ s) = counted (found || p x) s ∙ or_assoc found (p x) (any p s)

  pub any_of_fold : (s : List A) → fold (λ (t : Bool) (x : A). t || p x) false s ≡ any p s
  any_of_fold = counted false
