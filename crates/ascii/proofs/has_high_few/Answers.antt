use mathlib.Core.Path.{◌∙◌}
use Prim.Native.Nat.{ℕ}
use mathlib.Core.Bool.{Bool, ◌||◌}
use Rattle.std.proofs.Common.{rules}
use Rattle.std.proofs.lemmas.Iterator.{YieldsList-from_slice}
use Rattle.std.proofs.lemmas.Iterator.Consumers.{fold_from_yields_List}
use Rattle.ascii.specs.Bytes.{is_high}
use Rattle.ascii.proofs.Chains.{any_of_fold}
use Rattle.ascii.proofs.has_high_few.Goals as goal

pub returns : goal.returns
returns c = fold_from_yields_List _ (λ (t : Bool) (x : ℕ). t || is_high x) _ _ c.fold.ensures.ran (YieldsList-from_slice _ c.iter.ensures.rest) (λ a x b q k. search rules) ∙ any_of_fold is_high _
