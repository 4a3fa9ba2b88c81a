-- Rule 13 said with "for every", as upstream says it; that the tests mean this is proved. Assumes nothing.
use Rattle.model.specs.Model.{Cert}
use Rattle.names.specs.Stated.{SameDn}
use Rattle.names.specs.declared.Values.TheVariants.{Normalised}
use Rattle.auth_key_id.specs.Stated.{CheckAuthKeyId}

-- the names are the same normalised, and the AKI agrees
abbrev pub LikelyIssued : Cert → Cert → Type 0
LikelyIssued issuer subject = SameDn Normalised issuer.subject subject.issuer × CheckAuthKeyId issuer subject
