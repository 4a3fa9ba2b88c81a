-- The words of usages. Assumes nothing.
use Prim.Native.Nat.{ℕ, zero, suc}
use native.Mathlib.Omega.{arith}
use mathlib.Core.Path.{◌≡◌, refl, sym}
use mathlib.Core.Bool.{◌&&◌, ◌||◌, and-true, and-false, or-false}
use lib.Dec.{eqb}
use borrow.Author.Tests.{ne_eqb}
use Rattle.model.specs.Decode.{usage_of}
use Rattle.purpose.specs.Purpose.{any_serves, serves}
use Rattle.purpose.specs.declared.Serving.{Serving}
use Rattle.purpose.specs.declared.Serving.TheVariants.{Server, ServerOrAny}

serves_word : (s : Serving) (u : ℕ) → (eqb u 0 || any_serves s && eqb u 6) ≡ serves s (usage_of u)
unfolding serves usage_of
serves_word s zero = refl
serves_word s (suc zero) = and-false (any_serves s)
serves_word s (suc (suc zero)) = and-false (any_serves s)
serves_word s (suc (suc (suc zero))) = and-false (any_serves s)
serves_word s (suc (suc (suc (suc zero)))) = and-false (any_serves s)
serves_word s (suc (suc (suc (suc (suc zero))))) = and-false (any_serves s)
serves_word s (suc (suc (suc (suc (suc (suc zero)))))) = and-true (any_serves s)
serves_word s (suc (suc (suc (suc (suc (suc (suc u))))))) = rw (ne_eqb (suc (suc (suc (suc (suc (suc (suc u))))))) 0 (λ e. omega arith), ne_eqb (suc (suc (suc (suc (suc (suc (suc u))))))) 6 (λ e. omega arith)) (and-false (any_serves s))

module _ (s : Serving) (u : ℕ) where
  pub server_only : s ≡ Server → eqb u 0 ≡ serves s (usage_of u)
  server_only e = rw (← serves_word s u, e) (sym (or-false (eqb u 0)))

  pub server_or_any : s ≡ ServerOrAny → (eqb u 0 || eqb u 6) ≡ serves s (usage_of u)
  server_or_any e = rw (← serves_word s u, e) refl
