-- Rule 16: what a DNS constraint must be. Assumes nothing.
use Rattle.std.specs.Prelude.{Bool, true, ◌&&◌}
use Rattle.laws.specs.Lists.{all}
use Rattle.laws.specs.Optional.{if_there}
use Rattle.patterns.specs.Patterns.{valid_name_constraint}
use Rattle.model.specs.Model.{GeneralName, dns, directory, ip, other, unsupported, Nc, Cert}

-- a name, if it is a DNS name, is one that Chrome takes as a constraint
unfoldable pub valid_if_dns : GeneralName → Bool
valid_if_dns (dns s) = valid_name_constraint s
valid_if_dns (directory n) = true
valid_if_dns (ip a) = true
valid_if_dns other = true
valid_if_dns unsupported = true

-- each DNS constraint of a certificate, permitted or excluded, is such a name
unfoldable pub valid_dns_name_constraints : Cert → Bool
valid_dns_name_constraints c = if_there (λ (n : Nc). all valid_if_dns n.permitted && all valid_if_dns n.excluded) c.nc
