-- Assumes nothing.
use Rattle.model.proofs.Optional.{absent_fails, present_and}
use Rattle.sans.specs.Sans.{check_san_has_dns}
use Rattle.sans.proofs.check_san_has_dns.Goals as goal

pub returns-in-None : goal.returns-in-None
unfolding check_san_has_dns
returns-in-None c = absent_fails _ _ _ c.in-None.ensures

pub returns-in-Some : goal.returns-in-Some
unfolding check_san_has_dns
returns-in-Some c = present_and _ _ _ c.in-Some.ensures.0 (rw c.in-Some.ensures.1 at c.has_kind.ensures)
