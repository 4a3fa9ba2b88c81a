-- What the functions of this crate lean on. Assumes nothing.
use Prim.Native.Nat.{ℕ, zero, suc, ◌+◌, ◌*◌, ◌/◌, ◌%◌, ◌^◌, ◌<◌}
use native.Mathlib.Omega.{arith}
use native.Mathlib.Nat.{mod-one, mod-lt, zero-mul, zero-add}
use mathlib.Core.Path.{◌≡◌, refl, sym, ◌∙◌}
use mathlib.Core.Bool.{Bool, true, false, not, ◌||◌, ◌&&◌, or-false, or-true}
use lib.Dec.{eqb}
use lib.Pow.{mod-pow-add, pow_pos}
use borrow.Author.Tests.{ne_eqb}
use Rattle.laws.specs.Optional.{is_there}
use Rattle.model.specs.Model.{rsa, dsa, other_key}
use Rattle.model.specs.Decode.{unless_zero, bit_of, key_of}
use Rattle.model.proofs.Optional.{there_is}

-- ---- rule 4
neither : (s t : Bool) → (s && t) ≡ not (not s || not t)
neither true true = refl
neither true false = refl
neither false t = refl

-- c, d and u are the words of the UIDs and of the version as they were read
pub version_fits : {A B : Type 0} (a b v : ℕ) (x : A) (y : B) {c d u : ℕ} → u ≡ v → c ≡ a → d ≡ b → (eqb c 0 && eqb d 0 || eqb u 2 || eqb u 3) ≡ (not (is_there (unless_zero a x) || is_there (unless_zero b y)) || eqb v 2 || eqb v 3)
version_fits a b v x y e f g = rw (e, f, g, ← there_is a x, ← there_is b y, neither) refl

-- ---- rule 5
module _ (n : ℕ) where
  -- bit k or one below it, if s says whether there is one below it
  bit_more : (k : ℕ) {s : Bool} → s ≡ not (eqb (n % 2 ^ k) 0) → (s || bit_of k n) ≡ not (eqb (n % 2 ^ (1 + k)) 0)
  unfolding bit_of
  bit_more k {s} e = go (n / 2 ^ k % 2) (mod-lt (n / 2 ^ k) (omega arith)) (mod-pow-add n 1 k) where
    go : (b : ℕ) → b < 2 → n % 2 ^ (1 + k) ≡ b * 2 ^ k + n % 2 ^ k → (s || eqb b 1) ≡ not (eqb (n % 2 ^ (1 + k)) 0)
    go zero l m = or-false s ∙ e ∙ rw (m, zero-mul, zero-add) refl
    go (suc zero) l m = or-true s ∙ rw (m, ne_eqb (1 * 2 ^ k + n % 2 ^ k) 0 (λ z. omega (arith, pow_pos k))) refl
    go (suc (suc b)) l m = absurd (omega arith)

  none : false ≡ not (eqb (n % 2 ^ 0) 0)
  none = rw (mod-one n) refl

  pub some_bit : not (eqb (n % 512) 0) ≡ (bit_of 0 n || bit_of 1 n || bit_of 2 n || bit_of 3 n || bit_of 4 n || bit_of 5 n || bit_of 6 n || bit_of 7 n || bit_of 8 n)
  some_bit = sym (bit_more 8 (bit_more 7 (bit_more 6 (bit_more 5 (bit_more 4 (bit_more 3 (bit_more 2 (bit_more 1 (bit_more 0 none)))))))))

-- ---- rule 6: k is the word of the key as it was read
module _ (bits : ℕ) {k c : ℕ} (e : k ≡ c) where
  pub key_rsa : {r : ℕ} → k ≡ 0 → r ≡ bits → rsa r ≡ key_of c bits
  unfolding key_of
  key_rsa z h = rw (← e, z, h) refl

  pub key_dsa : k ≡ 1 → dsa ≡ key_of c bits
  unfolding key_of
  key_dsa z = rw (← e, z) refl

  pub key_other : (k ≡ 0 → ⊥) → (k ≡ 1 → ⊥) → other_key ≡ key_of c bits
  unfolding key_of
  key_other z o = rw (← e, ne_eqb k 0 z, ne_eqb k 1 o) refl
