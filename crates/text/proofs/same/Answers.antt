use native.Mathlib.Omega.{arith}
use mathlib.Core.Path.{sym, ◌∙◌}
use Rattle.laws.proofs.Equal.{each_length}
use Rattle.text.proofs.Chains.{each_of_pointwise, first_differs}
use Rattle.text.proofs.same.Goals as goal

pub returns-then-a-lt-LONG : goal.returns-then-a-lt-LONG
returns-then-a-lt-LONG c = c.eq.ensures ∙ each_of_pointwise _ _ _

pub returns-then-a-b : goal.returns-then-a-b
returns-then-a-b c = sym (each_length _ _ _ c.if-a-b.true)

pub returns-then-a-b-2 : goal.returns-then-a-b-2
returns-then-a-b-2 c = first_differs _ _ (omega arith) c.if-a-b-2.true
