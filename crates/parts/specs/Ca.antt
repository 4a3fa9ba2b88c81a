-- Rule 9: a certificate that issues others. Assumes nothing.
use Rattle.std.specs.Prelude.{Bool, ◌&&◌}
use Rattle.laws.specs.Optional.{if_there, there_and}
use Rattle.model.specs.Model.{Cert, Bc, Ku}

-- BC present with CA; KU, if present, has key_cert_sign
unfoldable pub check_ca : Cert → Bool
check_ca c = there_and (λ (b : Bc). b.ca) c.bc && if_there (λ (k : Ku). k.key_cert_sign) c.ku
