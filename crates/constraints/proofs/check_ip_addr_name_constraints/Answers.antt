-- Assumes nothing.
use Rattle.std.proofs.Common.{rules}
use Rattle.covering.specs.Covers.{over_ip}
use Rattle.constraints.specs.Match.{check_ip_addr_name_constraints}
use Rattle.constraints.proofs.check_ip_addr_name_constraints.Goals as goal

pub returns : goal.returns
unfolding check_ip_addr_name_constraints
returns c = c.allowed.ensures (over_ip c.args.address.now) (λ r b f. search rules)
