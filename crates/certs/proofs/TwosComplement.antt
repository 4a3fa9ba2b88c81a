-- The two's complement. Assumes nothing.
use Prim.Native.Nat.{ℕ, zero, suc, ◌-◌, ◌^◌, ◌≤◌, ◌<◌}
use native.Mathlib.Omega.{arith}
use native.Mathlib.Nat.{zero-add}
use mathlib.Core.Path.{◌≡◌, refl, ap, ◌∙◌}
use lib.IntN.{pos, negsuc, ◌-ℤ◌}
use borrow.Author.Tests.{lt-ltb, le-ltb}
use mir.Syntax.{w64}
use mir.Val.{to_z, of_z, SFits}
use mir.Facts.{to_z-of_z}
use Rattle.model.specs.Decode.{signed_of}

-- -1 less m
minus : (m : ℕ) → (negsuc 0 -ℤ pos m) ≡ negsuc m
minus zero = refl
minus (suc m) = ap (λ (k : ℕ). negsuc (suc k)) (zero-add m)

small : (n : ℕ) → n < 2 ^ 63 → to_z w64 n ≡ pos n
small n h = rw (lt-ltb n (2 ^ 63) h) refl

pub signed_small : (n : ℕ) → n < 2 ^ 63 → to_z w64 n ≡ signed_of n
unfolding signed_of
signed_small n h = rw (lt-ltb n (2 ^ 63) h) refl

-- a word from 2 ^ 63 on; m is what it lacks to 2 ^ 64 - 1
module _ (n : ℕ) (h : 2 ^ 63 ≤ n) (l : n < 2 ^ 64) where
  lacks : (negsuc 0 -ℤ to_z w64 (2 ^ 64 - 1 - n)) ≡ negsuc (2 ^ 64 - 1 - n)
  lacks = rw (small (2 ^ 64 - 1 - n) (omega arith)) (minus (2 ^ 64 - 1 - n))

  pub lacks_fits : SFits w64 (negsuc 0 -ℤ to_z w64 (2 ^ 64 - 1 - n))
  lacks_fits = record { sfits = rw lacks (omega arith) }

  pub signed_large : to_z w64 (of_z w64 (negsuc 0 -ℤ to_z w64 (2 ^ 64 - 1 - n))) ≡ signed_of n
  unfolding signed_of
  signed_large = to_z-of_z lacks_fits ∙ lacks ∙ rw (le-ltb n (2 ^ 63) h) refl
