-- The laws of a loop over rows that stops at the first that passes. The invariant is that the whole is what the rest answers, so nothing has to be shown before the first turn;
-- `-next` is one more turn, `-here` the turn at which the answer is found, `-none` the end. Assumes nothing.
use Prim.Native.Nat.{ℕ, ◌+◌, ◌≤◌, ◌<◌}
use mathlib.Core.Path.{◌≡◌, refl, sym, ◌∙◌}
use mathlib.Core.Bool.{Bool, true, false}
use Rattle.laws.specs.Lists.{rows, any}
use Rattle.laws.proofs.Rows.{rows_step, rows_end}

-- r is what the test answers at i; `whole` is what the loop is to answer
module _ {A : Type 0} (p : A → Bool) (g : ℕ → A) (i e : ℕ) {whole : Bool} where
  pub any_here : {r : Bool} → i < e → r ≡ p (g i) → r ≡ true → whole ≡ any p (rows g i e) → true ≡ whole
  unfolding any
  any_here h t y w = sym (w ∙ rw (rows_step g i e h, ← t, y) refl)

  pub any_next : {r : Bool} → i < e → r ≡ p (g i) → r ≡ false → whole ≡ any p (rows g i e) → whole ≡ any p (rows g (i + 1) e)
  unfolding any
  any_next h t y w = w ∙ rw (rows_step g i e h, ← t, y) refl

  pub any_none : e ≤ i → whole ≡ any p (rows g i e) → false ≡ whole
  unfolding any
  any_none h w = sym (w ∙ rw (rows_end g i e h) refl)
