-- Assumes nothing.
use mathlib.Core.Path.{sym, ◌∙◌}
use Rattle.laws.proofs.Tests.{and_then, and_stop}
use Rattle.model.proofs.Optional.{absent_passes, present_passes}
use Rattle.constrained_c.specs.Rule16.{valid_dns_name_constraints}
use Rattle.constrained_c.proofs.rule16.valid_dns_name_constraints.Goals as goal

pub returns-in-None : goal.returns-in-None
unfolding valid_dns_name_constraints
returns-in-None c = absent_passes _ _ _ c.in-None.ensures

pub returns-then-all_valid : goal.returns-then-all_valid
unfolding valid_dns_name_constraints
returns-then-all_valid c = present_passes _ _ _ c.in-Some.ensures.0 (rw c.in-Some.ensures.1 at (and_then c.all_valid.ensures c.if-all_valid.true c.all_valid-then-all_valid.ensures))

pub returns-else-all_valid : goal.returns-else-all_valid
unfolding valid_dns_name_constraints
returns-else-all_valid c = c.if-all_valid.false ∙ present_passes _ _ _ c.in-Some.ensures.0 (and_stop (rw c.in-Some.ensures.1 at c.all_valid.ensures) _ c.if-all_valid.false)
