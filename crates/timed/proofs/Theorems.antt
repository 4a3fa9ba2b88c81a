-- The number is one. Assumes nothing.
use Prim.Native.Nat.{ℕ}
use mathlib.Core.Path.{◌≡◌, sym, ap, ◌∙◌}
use mathlib.Core.List.{List}
use Rattle.sound.specs.Answer.{Checked, ChainVerdict}
use Rattle.sound.specs.ChainFault.{ChainFault}
use Rattle.sound.specs.declared.Bundle.TheVariants.{Chain}
use Rattle.sound.proofs.Verdicts.{one_verdict}
use Rattle.timed.specs.Packed.{packed}

-- Any two numbers that the contract allows are equal.
pub one_word : (w b : List ℕ) (r s : ℕ) → ((c : Checked) × (ChainVerdict w b c × (r ≡ packed c))) → ((c : Checked) × (ChainVerdict w b c × (s ≡ packed c))) → r ≡ s
unfolding ChainVerdict
one_word w b r s (c, (v, e)) (d, (u, f)) = e ∙ ap packed (one_verdict (ChainFault w b) Chain c d v u) ∙ sym f
