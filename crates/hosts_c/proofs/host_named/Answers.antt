-- Assumes nothing.
use Rattle.model.proofs.Optional.{none_passes, some_passes}
use Rattle.hosts_c.specs.SanHost.{host_named}
use Rattle.hosts_c.proofs.host_named.Goals as goal

pub returns-in-None : goal.returns-in-None
unfolding host_named
returns-in-None c = none_passes _ c.in-None.ensures

pub returns-in-Some : goal.returns-in-Some
unfolding host_named
returns-in-Some c = some_passes _ c.in-Some.ensures (rw c.clean_name.ensures.clean at c.match_san_domain.ensures)
