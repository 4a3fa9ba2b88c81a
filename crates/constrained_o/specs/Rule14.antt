-- Rule 14 of OpenSSL. Assumes nothing.
use Rattle.std.specs.Prelude.{Bool, true}
use Rattle.model.specs.Model.{Cert}
use Rattle.covering_dns.specs.declared.Covering.TheVariants.{Lowered}
use Rattle.constraints.specs.Keeps.{keeps_constraints}

-- certificate j keeps the constraints of certificate i: DNS names are lowered, a self-issued j is exempt, and common names are asked of the leaf
unfoldable pub check_name_constraints : Bool → Cert → Cert → Bool
check_name_constraints leaf i j = keeps_constraints Lowered true leaf i j
