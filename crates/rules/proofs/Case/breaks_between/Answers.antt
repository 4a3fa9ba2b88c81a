use mathlib.Core.Path.{refl}
use Rattle.rules.specs.Rules.{broken_between}
use Rattle.rules.proofs.Case.breaks_between.Goals as goal

pub returns : goal.returns
unfolding broken_between
returns c = rw (c.holds_between.ensures, c.row_of-2.ensures, c.row_of.ensures) refl
