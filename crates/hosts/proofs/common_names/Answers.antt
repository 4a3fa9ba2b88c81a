use Rattle.laws.proofs.Tests.{and_then, and_stop}
use Rattle.sans.specs.Sans.{common_and}
use Rattle.hosts.proofs.common_names.Goals as goal

pub returns-then-is_common : goal.returns-then-is_common
unfolding common_and
returns-then-is_common c = and_then c.is_common.ensures c.if-is_common.true (rw (← c.value.ensures) c.names_host.ensures)

pub returns : goal.returns
unfolding common_and
returns c = and_stop c.is_common.ensures _ c.if-is_common.false
