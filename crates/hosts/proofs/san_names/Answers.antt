-- Assumes nothing.
use Rattle.model.proofs.Optional.{absent_fails, present_and}
use Rattle.hosts.proofs.san_names.Goals as goal

pub returns-in-None : goal.returns-in-None
returns-in-None c = absent_fails _ _ _ c.in-None.ensures

pub returns-in-Some : goal.returns-in-Some
returns-in-Some c = present_and _ _ _ c.in-Some.ensures.0 (rw c.in-Some.ensures.1 at c.any_dns_names.ensures)
