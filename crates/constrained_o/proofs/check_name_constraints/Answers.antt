-- Assumes nothing.
use mathlib.Core.Path.{◌∙◌}
use Rattle.laws.proofs.Tests.{or_then, or_stop}
use Rattle.model.proofs.Optional.{absent_passes, present_passes}
use Rattle.constraints.specs.Keeps.{keeps_constraints}
use Rattle.constrained_o.specs.Rule14.{check_name_constraints}
use Rattle.constrained_o.proofs.check_name_constraints.Goals as goal

pub returns-in-None : goal.returns-in-None
unfolding check_name_constraints keeps_constraints
returns-in-None c = absent_passes _ _ _ c.in-None.ensures

pub returns-then-self_issued : goal.returns-then-self_issued
unfolding check_name_constraints keeps_constraints
returns-then-self_issued c = c.if-self_issued.true ∙ present_passes _ _ _ c.in-Some.ensures.0 (or_stop c.self_issued.ensures _ c.if-self_issued.true)

pub returns-else-self_issued : goal.returns-else-self_issued
unfolding check_name_constraints keeps_constraints
returns-else-self_issued c = present_passes _ _ _ c.in-Some.ensures.0 (or_then c.self_issued.ensures c.if-self_issued.false (rw c.in-Some.ensures.1 at c.check_name_constraints_helper.ensures))
