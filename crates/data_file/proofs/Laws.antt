-- Eight bytes as a number, and what a read of fewer values leaves. Assumes nothing.
use Prim.Native.Nat.{ℕ, suc, ◌+◌, ◌-◌, ◌*◌, ◌≤◌, ◌<◌}
use native.Mathlib.Omega.{arith}
use mathlib.Core.Path.{◌≡◌, refl, sym, ap, subst, ◌∙◌}
use mathlib.Core.List.{List}
use lib.ListN.{length, get_or, drop, drop_of_length-le}
use lib.Seq.{drop-cons, drop-drop}
use Rattle.data_file.specs.DataFile.{word_of, Filled, Begins}
use Rattle.std.specs.Int.{w64, from_le_bytes}
use Rattle.std.specs.Prelude.{Result}
use Rattle.data_file.specs.declared.Ended.{Ended}

-- the number of the bytes from i on
from_byte : (b : List ℕ) (i : ℕ) → i < length b → word_of (drop i b) ≡ get_or b i 0 + 256 * word_of (drop (suc i) b)
unfolding word_of
from_byte b i h = rw (drop-cons b i 0) refl

past_bytes : (b : List ℕ) → length b ≤ 8 → word_of (drop 8 b) ≡ 0
unfolding word_of
past_bytes b h = rw (drop_of_length-le b h) refl

-- std's number of eight bytes is the same
pub low_first : (b : List ℕ) → length b ≡ 8 → from_le_bytes w64 b ≡ word_of b
low_first b e =
    omega (arith, from_byte b 0 (omega arith), from_byte b 1 (omega arith), from_byte b 2 (omega arith), from_byte b 3 (omega arith), from_byte b 4 (omega arith), from_byte b 5 (omega arith), from_byte b 6 (omega arith), from_byte b 7 (omega arith), past_bytes b (omega arith))

-- what stands behind more values stays too
pub begins : {k : ℕ} (n : ℕ) {old new : List ℕ} {got : Result (Unit {0}) Ended} → Filled k old new got → k ≤ n → n ≤ length old → Begins n old new
begins {k = k} n {old = old} {new = new} f h l =
    let all : k + (n - k) ≡ n = omega arith in
    (l, subst (λ (m : ℕ). drop m new ≡ drop m old) all (sym (drop-drop (n - k) k new) ∙ ap (drop (n - k)) f.rest_stays ∙ drop-drop (n - k) k old))
