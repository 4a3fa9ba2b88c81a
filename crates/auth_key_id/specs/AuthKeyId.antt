-- `check_auth_key_id`: the AKI of a certificate and the one that issued it. Assumes nothing.
use Rattle.std.specs.Prelude.{Bool, ◌&&◌}
use Rattle.laws.specs.Lists.{eq_list}
use Rattle.laws.specs.Optional.{if_there}
use Rattle.model.specs.Model.{Bytes, Cert, Aki, Ski}

-- the issuer's SKI, if present, has this key id
unfoldable pub key_id_is : Cert → Bytes → Bool
key_id_is issuer k = if_there (λ (s : Ski). eq_list s.key_id k) issuer.ski

-- the AKI's key id, if it has one, is the issuer's
unfoldable pub same_key_id : Cert → Aki → Bool
same_key_id issuer a = if_there (key_id_is issuer) a.key_id

-- the AKI's serial, if it has one, is the issuer's
unfoldable pub same_serial : Cert → Aki → Bool
same_serial issuer a = if_there (eq_list issuer.serial) a.serial

-- the subject's AKI, if present, has the issuer's key id and serial; its issuer field is not compared
unfoldable pub check_auth_key_id : Cert → Cert → Bool
check_auth_key_id issuer subject = if_there (λ (a : Aki). same_key_id issuer a && same_serial issuer a) subject.aki
