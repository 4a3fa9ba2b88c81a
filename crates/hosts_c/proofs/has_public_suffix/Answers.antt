use Rattle.hosts_c.specs.SanHost.{has_public_suffix}
use Rattle.hosts_c.proofs.has_public_suffix.Goals as goal

pub returns : goal.returns
unfolding has_public_suffix
returns c = c.matches.ensures
