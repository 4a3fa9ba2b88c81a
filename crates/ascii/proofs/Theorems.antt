-- What the definition of lowering means: laws that test it. Assumes nothing.
use Prim.Native.Nat.{ℕ, ◌+◌}
use mathlib.Core.Path.{◌≡◌, refl}
use mathlib.Core.Bool.{true, false}
use Rattle.ascii.specs.Bytes.{is_upper, lower_byte}

pub lower_letter : (x : ℕ) → is_upper x ≡ true → lower_byte x ≡ x + 32
unfolding lower_byte
lower_letter x h = rw h refl

pub lower_nothing_else : (x : ℕ) → is_upper x ≡ false → lower_byte x ≡ x
unfolding lower_byte
lower_nothing_else x h = rw h refl
