-- IP ranges as the code asks for them. Assumes nothing.
use Prim.Native.Nat.{ℕ, ◌+◌}
use native.Mathlib.Omega.{arith}
use mathlib.Core.Path.{◌≡◌, refl, sym, ◌∙◌}
use mathlib.Core.List.{List}
use mathlib.Core.Bool.{Bool, true, false, ◌&&◌, or-false}
use lib.Dec.{eqb}
use lib.ListN.{length}
use borrow.Author.Tests.{eq-eqb, eqb-true}
use Rattle.laws.specs.Lists.{all, numbers}
use Rattle.patterns.specs.Address.{agrees_at, in_range, ip_addr_in_range}

module _ (range address : List ℕ) where
  -- with the right lengths each byte is asked
  pub each_byte : (n : ℕ) → length range ≡ n + n → length address ≡ n → in_range n range address ≡ all (agrees_at n range address) (numbers 0 n)
  unfolding in_range
  each_byte n e f = rw (eq-eqb (length range) (n + n) e, eq-eqb (length address) n f) refl

  -- with other lengths nothing lies in the range
  pub other_lengths : (n : ℕ) → (length range ≡ n + n → length address ≡ n → ⊥) → in_range n range address ≡ false
  unfolding in_range
  other_lengths n h = go (eqb (length range) (n + n)) refl (eqb (length address) n) refl where
    go : (s : Bool) → eqb (length range) (n + n) ≡ s → (t : Bool) → eqb (length address) n ≡ t → (s && t && all (agrees_at n range address) (numbers 0 n)) ≡ false
    go true e true f = absurd (h (eqb-true _ _ e) (eqb-true _ _ f))
    go true e false f = refl
    go false e t f = refl

  pub neither : (length range ≡ length address + length address → length address ≡ 4 → ⊥) → (length range ≡ length address + length address → length address ≡ 16 → ⊥) → false ≡ ip_addr_in_range range address
  unfolding ip_addr_in_range
  neither h k = rw (other_lengths 4 (λ e f. h (omega arith) f), other_lengths 16 (λ e f. k (omega arith) f)) refl

  pub of_four : {r : Bool} → length address ≡ 4 → r ≡ in_range 4 range address → r ≡ ip_addr_in_range range address
  unfolding ip_addr_in_range
  of_four e t = t ∙ rw (other_lengths 16 (λ f g. omega arith)) (sym (or-false (in_range 4 range address)))

  pub of_sixteen : {r : Bool} → length address ≡ 16 → r ≡ in_range 16 range address → r ≡ ip_addr_in_range range address
  unfolding ip_addr_in_range
  of_sixteen e t = t ∙ rw (other_lengths 4 (λ f g. omega arith)) refl
