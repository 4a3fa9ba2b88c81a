use Rattle.laws.proofs.Tests.{and_then, and_stop}
use Rattle.constraints.specs.Keeps.{check_name_constraints_helper}
use Rattle.constrained_o.proofs.check_name_constraints_helper.Goals as goal

pub returns-then-not-check_subject : goal.returns-then-not-check_subject
unfolding check_name_constraints_helper
returns-then-not-check_subject c = and_stop c.check_subject.ensures _ c.if-not-check_subject.true

pub returns-then-not-check_san_constraints : goal.returns-then-not-check_san_constraints
unfolding check_name_constraints_helper
returns-then-not-check_san_constraints c = and_then c.check_subject.ensures c.if-not-check_subject.false (and_stop c.check_san_constraints.ensures _ c.if-not-check_san_constraints.true)

pub returns : goal.returns
unfolding check_name_constraints_helper
returns c = and_then c.check_subject.ensures c.if-not-check_subject.false (and_then c.check_san_constraints.ensures c.if-not-check_san_constraints.false c.leaf_passes.ensures)
