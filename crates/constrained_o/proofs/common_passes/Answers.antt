use mathlib.Core.Path.{ap}
use mathlib.Core.Bool.{not}
use Rattle.laws.proofs.Tests.{or_then, or_stop}
use Rattle.sans.specs.Sans.{if_common}
use Rattle.constraints.specs.Match.{asked_name, nc_match}
use Rattle.constrained_o.proofs.common_passes.Goals as goal

pub returns-then-is_common : goal.returns-then-is_common
unfolding if_common asked_name nc_match
returns-then-is_common c = or_then (ap not c.is_common.ensures) (ap not c.if-is_common.true) (rw (← c.value.ensures) c.check_dns_name_constraints.ensures)

pub returns : goal.returns
unfolding if_common
returns c = or_stop (ap not c.is_common.ensures) _ (ap not c.if-is_common.false)
