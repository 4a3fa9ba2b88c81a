-- Assumes nothing.
use Rattle.model.proofs.Optional.{absent_passes, present_passes}
use Rattle.constraints.specs.Keeps.{check_san_constraints}
use Rattle.constraints.proofs.check_san_constraints.Goals as goal

pub returns-in-None : goal.returns-in-None
unfolding check_san_constraints
returns-in-None c = absent_passes _ _ _ c.in-None.ensures

pub returns-in-Some : goal.returns-in-Some
unfolding check_san_constraints
returns-in-Some c = present_passes _ _ _ c.in-Some.ensures.0 (rw c.in-Some.ensures.1 at c.names_pass.ensures)
