-- Assumes nothing.
use Rattle.model.proofs.Optional.{none_passes, some_passes}
use Rattle.hosts.specs.Hostname.{host_named}
use Rattle.hosts.proofs.host_named.Goals as goal

pub returns-in-None : goal.returns-in-None
unfolding host_named
returns-in-None c = none_passes _ c.in-None.ensures

pub returns-in-Some : goal.returns-in-Some
unfolding host_named
returns-in-Some c = some_passes _ c.in-Some.ensures c.check_hostname.ensures
