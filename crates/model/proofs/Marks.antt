-- What the word of a part says of its mark. Assumes nothing.
use Prim.Native.Nat.{ℕ, zero, suc}
use native.Mathlib.Omega.{arith}
use mathlib.Core.Path.{◌≡◌, refl, sym, ◌∙◌}
use mathlib.Core.Bool.{Bool, not, ◌&&◌, ◌||◌}
use lib.Dec.{eqb, ltb, leb}
use borrow.Author.Tests.{ne_eqb, le-ltb, le-leb}
use Rattle.laws.specs.Optional.{if_there, there_and}
use Rattle.model.specs.Decode.{unless_zero, mark_of}
use Rattle.model.specs.Marks.{is_critical}
use Rattle.model.proofs.Optional.{passes, there_passes}

-- a part's word is its mark; from 3 on it is critical
low_mark : (w : ℕ) → ltb w 3 ≡ (eqb w 0 || not (is_critical (mark_of w)))
unfolding mark_of is_critical
low_mark zero = refl
low_mark (suc zero) = refl
low_mark (suc (suc zero)) = refl
low_mark (suc (suc (suc n))) = let w : ℕ = suc (suc (suc n)) in le-ltb w 3 (omega arith) ∙ rw (ne_eqb w 0 (λ e. omega arith), ne_eqb w 1 (λ e. omega arith), ne_eqb w 2 (λ e. omega arith)) refl

high_mark : (w : ℕ) → leb 3 w ≡ (not (eqb w 0) && is_critical (mark_of w))
unfolding mark_of is_critical
high_mark zero = refl
high_mark (suc zero) = refl
high_mark (suc (suc zero)) = refl
high_mark (suc (suc (suc n))) = let w : ℕ = suc (suc (suc n)) in le-leb 3 w (omega arith) ∙ rw (ne_eqb w 0 (λ e. omega arith), ne_eqb w 1 (λ e. omega arith), ne_eqb w 2 (λ e. omega arith)) refl

module _ {A : Type 0} (w : ℕ) (x : A) (p : A → Bool) {c : ℕ} (e : c ≡ w) where
  pub not_critical_law : p x ≡ not (is_critical (mark_of w)) → ltb c 3 ≡ if_there p (unless_zero w x)
  not_critical_law h = rw e (low_mark w) ∙ passes w x refl p (sym h)

  pub is_critical_law : p x ≡ is_critical (mark_of w) → leb 3 c ≡ there_and p (unless_zero w x)
  is_critical_law h = rw e (high_mark w) ∙ there_passes w x refl p (sym h)
