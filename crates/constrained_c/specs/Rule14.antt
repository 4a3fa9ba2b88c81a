-- Rule 14 of Chrome. Assumes nothing.
use Rattle.std.specs.Prelude.{Bool, false}
use Rattle.model.specs.Model.{Cert}
use Rattle.covering_dns.specs.declared.Covering.TheVariants.{Cleaned}
use Rattle.constraints.specs.Keeps.{keeps_constraints}

-- certificate j keeps the constraints of certificate i: DNS names are cleaned, no j is exempt, and common names are not asked
unfoldable pub check_name_constraints : Cert → Cert → Bool
check_name_constraints i j = keeps_constraints Cleaned false false i j
