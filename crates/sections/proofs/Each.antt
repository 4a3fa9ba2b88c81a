-- One thing after the other is looked at. Assumes nothing.
use mathlib.Core.Path.{◌≡◌, refl, sym, ap, ◌∙◌}
use mathlib.Core.List.{List, [], ◌∷◌, ◌++◌}
use Rattle.std.specs.declared.option.Option.{Option}
use Rattle.std.specs.List.{fold}
use Rattle.sections.specs.declared.Fault.{Fault}
use Rattle.sections.specs.Found.{earlier_of, found_each}

module _ {A : Type 0} (found : A → Option Fault) where
  -- as `fold` looks at them
  pub each_fold : (f : Option Fault) (xs : List A) → fold (λ g x. earlier_of g (found x)) f xs ≡ found_each found f xs
  unfolding found_each
  each_fold f [] = refl
  each_fold f (x ∷ xs) = each_fold (earlier_of f (found x)) xs

  -- first some, then the others
  each_both : (xs ys : List A) (f : Option Fault) → found_each found f (xs ++ ys) ≡ found_each found (found_each found f xs) ys
  unfolding found_each
  each_both [] ys f = refl
  each_both (x ∷ xs) ys f = each_both xs ys (earlier_of f (found x))

  pub each_then : (xs ys : List A) (f : Option Fault) {g r : Option Fault} → g ≡ found_each found f xs → r ≡ found_each found g ys → r ≡ found_each found f (xs ++ ys)
  each_then xs ys f e t = t ∙ ap (λ (h : Option Fault). found_each found h ys) e ∙ sym (each_both xs ys f)
