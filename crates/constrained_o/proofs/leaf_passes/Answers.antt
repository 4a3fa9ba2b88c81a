use mathlib.Core.Path.{refl, ap}
use mathlib.Core.Bool.{not}
use Rattle.laws.proofs.Tests.{or_then, or_stop}
use Rattle.constrained_o.proofs.leaf_passes.Goals as goal

pub returns-then-check_san_has_dns : goal.returns-then-check_san_has_dns
returns-then-check_san_has_dns c = or_then refl (ap not c.if-not-leaf.false) (or_stop c.check_san_has_dns.ensures _ c.if-check_san_has_dns.true)

pub returns : goal.returns
returns c = or_then refl (ap not c.if-not-leaf.false) (or_then c.check_san_has_dns.ensures c.if-check_san_has_dns.false c.check_common_name_constraints.ensures)
