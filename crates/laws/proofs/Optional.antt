-- What the tests of what may be absent mean. Assumes nothing.
use mathlib.Core.Path.{◌≡◌, refl}
use mathlib.Core.Logic.{◌↔◌}
use mathlib.Core.Bool.{Bool, true, false≢true}
use mathlib.Core.Option.{Option, none, some}
use Rattle.laws.specs.Optional.{if_there, there_and, is_there}

module _ {A : Type 0} where
  module _ (p : A → Bool) where
    pub if_there_means : (o : Option A) → (if_there p o ≡ true) ↔ ((x : A) → o ≡ some x → p x ≡ true)
    if_there_means none = (λ h x e. cc, λ h. refl)
    if_there_means (some y) = (λ h x e. cc, λ h. h y refl)

    pub there_and_means : (o : Option A) → (there_and p o ≡ true) ↔ ((x : A) × (o ≡ some x) × (p x ≡ true))
    there_and_means none = (λ h. absurd (false≢true h), λ (x, e, h). cc)
    there_and_means (some y) = (λ h. (y, refl, h), λ (x, e, h). cc)

  pub is_there_means : (o : Option A) → (is_there o ≡ true) ↔ ((x : A) × (o ≡ some x))
  is_there_means none = (λ h. absurd (false≢true h), λ (x, e). cc)
  is_there_means (some y) = (λ h. (y, refl), λ (x, e). refl)
