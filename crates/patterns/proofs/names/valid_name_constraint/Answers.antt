use Rattle.patterns.proofs.Hosts.{constraint_empty, constraint_dot, constraint_star}
use Rattle.patterns.proofs.names.valid_name_constraint.Goals as goal

pub returns-then-is_empty : goal.returns-then-is_empty
returns-then-is_empty c = constraint_empty _ c.clean_name-name.ensures c.is_empty.ensures c.if-is_empty.true

pub returns-else-not-ends_with : goal.returns-else-not-ends_with
returns-else-not-ends_with c = constraint_dot _ c.clean_name-name.ensures c.is_empty.ensures c.if-is_empty.false c.ends_with.ensures.value c.if-not-ends_with.false

pub returns-then-not-ends_with : goal.returns-then-not-ends_with
returns-then-not-ends_with c = constraint_star _ c.clean_name-name.ensures c.is_empty.ensures c.if-is_empty.false c.ends_with.ensures.value c.if-not-ends_with.true c.has_class.ensures
