-- Assumes nothing.
use Rattle.hosts_c.proofs.match_san.Goals as goal

pub returns : goal.returns
returns c = rw c.has_public_suffix.ensures at c.any_dns_names.ensures
