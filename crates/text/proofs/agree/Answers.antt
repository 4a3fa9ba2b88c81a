use mathlib.Core.Path.{refl, ◌∙◌}
use Prim.Native.Nat.{ℕ}
use mathlib.Core.Bool.{Bool, ◌&&◌}
use lib.Dec.{eqb}
use Rattle.std.proofs.Common.{rules}
use Rattle.std.proofs.lemmas.Iterator.{YieldsList-from_range}
use Rattle.std.proofs.lemmas.Iterator.Consumers.{fold_from_yields_List}
use Rattle.laws.proofs.Rows.{at}
use Rattle.text.proofs.Chains.{each_of_fold}
use Rattle.text.proofs.agree.Goals as goal

pub returns : goal.returns
unfolding at
returns c =
    fold_from_yields_List _ (λ (t : Bool) (i : ℕ). t && eqb (at 0 c.args.a.now i) (at 0 c.args.b.now i)) _ _ c.fold.ensures.ran (YieldsList-from_range _ _ _ refl refl)
    (λ a x b q k. search rules) ∙ each_of_fold eqb c.args.a.now c.args.b.now c.requires
