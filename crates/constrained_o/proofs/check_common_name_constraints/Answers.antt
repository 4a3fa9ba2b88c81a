use Rattle.constraints.specs.Keeps.{check_common_name_constraints}
use Rattle.constrained_o.proofs.check_common_name_constraints.Goals as goal

pub returns : goal.returns
unfolding check_common_name_constraints
returns c = rw (← c.cert_range.ensures) c.commons_pass.ensures
