-- Assumes nothing.
use Rattle.std.proofs.Common.{rules}
use Rattle.covering_dns.specs.Covers.{over_dns}
use Rattle.constraints.specs.Match.{check_dns_name_constraints}
use Rattle.constraints.proofs.check_dns_name_constraints.Goals as goal

pub returns : goal.returns
unfolding check_dns_name_constraints
returns c = c.allowed.ensures (over_dns c.args.v c.args.name.now) (λ r b f. search rules)
