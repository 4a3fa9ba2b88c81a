-- Rule 13: `likely_issued`, a certificate and the one that issued it. Assumes nothing.
use Rattle.std.specs.Prelude.{Bool, ◌&&◌}
use Rattle.model.specs.Model.{Cert}
use Rattle.names.specs.Names.{same_dn}
use Rattle.names.specs.declared.Values.TheVariants.{Normalised}
use Rattle.auth_key_id.specs.AuthKeyId.{check_auth_key_id}

-- the issuer's subject and the subject's issuer are the same normalised, and no key id or serial tells otherwise
unfoldable pub likely_issued : Cert → Cert → Bool
likely_issued issuer subject = same_dn Normalised issuer.subject subject.issuer && check_auth_key_id issuer subject
