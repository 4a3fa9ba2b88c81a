-- Assumes nothing.
use mathlib.Core.Path.{sym, ◌∙◌}
use Rattle.laws.proofs.Tests.{and_then, and_stop}
use Rattle.model.proofs.Optional.{absent_passes, present_passes}
use Rattle.constrained_c.specs.Rule14.{check_name_constraints}
use Rattle.constrained_c.proofs.Laws.{names_only}
use Rattle.constrained_c.proofs.rule14.check_name_constraints.Goals as goal

pub returns-in-None : goal.returns-in-None
unfolding check_name_constraints
returns-in-None c = absent_passes _ _ _ c.in-None.ensures ∙ sym (names_only _ _ _)

pub returns-then-check_subject : goal.returns-then-check_subject
unfolding check_name_constraints
returns-then-check_subject c = present_passes _ _ _ c.in-Some.ensures.0 (rw c.in-Some.ensures.1 at (and_then c.check_subject.ensures c.if-check_subject.true c.check_san_constraints.ensures)) ∙ sym (names_only _ _ _)

pub returns-else-check_subject : goal.returns-else-check_subject
unfolding check_name_constraints
returns-else-check_subject c = c.if-check_subject.false ∙ present_passes _ _ _ c.in-Some.ensures.0 (and_stop (rw c.in-Some.ensures.1 at c.check_subject.ensures) _ c.if-check_subject.false) ∙ sym (names_only _ _ _)
