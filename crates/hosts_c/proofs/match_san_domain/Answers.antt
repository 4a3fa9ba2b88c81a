-- Assumes nothing.
use Rattle.model.proofs.Optional.{absent_fails, present_and}
use Rattle.hosts_c.specs.SanHost.{match_san}
use Rattle.hosts_c.proofs.match_san_domain.Goals as goal

pub returns-in-None : goal.returns-in-None
unfolding match_san
returns-in-None c = absent_fails _ _ _ c.in-None.ensures

pub returns-in-Some : goal.returns-in-Some
unfolding match_san
returns-in-Some c = present_and _ _ _ c.in-Some.ensures.0 (rw c.in-Some.ensures.1 at c.match_san.ensures)
