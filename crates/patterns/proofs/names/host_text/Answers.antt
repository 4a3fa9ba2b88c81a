use Rattle.patterns.proofs.Hosts.{host_empty, host_some}
use Rattle.patterns.proofs.names.host_text.Goals as goal

pub returns-then-not-is_empty : goal.returns-then-not-is_empty
returns-then-not-is_empty c = host_some _ c.is_empty.ensures c.if-not-is_empty.true c.all_host_bytes.ensures

pub returns-else-not-is_empty : goal.returns-else-not-is_empty
returns-else-not-is_empty c = host_empty _ c.is_empty.ensures c.if-not-is_empty.false
