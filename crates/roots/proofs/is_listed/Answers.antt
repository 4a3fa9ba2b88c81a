-- Assumes nothing.
use Rattle.roots.proofs.is_listed.Goals as goal

pub returns : goal.returns
returns c = rw (← c.cert_string.ensures) c.in_list.ensures
