use Rattle.patterns.proofs.Hosts.{clean_of}
use Rattle.patterns.proofs.names.clean_name.Goals as goal

pub returns : goal.returns
returns c = rw c.unwrap_or.ensures (clean_of _ _ c.strip_suffix.ensures.cases)
