-- Rule 8: what the key may be used for. Policies differ in the usages that serve and in whether the leaf's KU is asked. Assumes nothing.
use Rattle.std.specs.Prelude.{Bool, true, false, not, ◌&&◌, ◌||◌}
use Rattle.laws.specs.Lists.{any}
use Rattle.laws.specs.Optional.{if_there}
use Rattle.model.specs.Model.{Usage, server_auth, client_auth, code_signing, email_protection, time_stamping, ocsp_signing, any_usage, other_usage, Cert, Eku, Ku}
use Rattle.purpose.specs.declared.Serving.{Serving}
use Rattle.purpose.specs.declared.Serving.TheVariants.{Server, ServerOrAny}

-- whether Any serves as ServerAuth does
abbrev pub any_serves : Serving → Bool
any_serves Server = false
any_serves ServerOrAny = true

-- the usages that serve
unfoldable pub serves : Serving → Usage → Bool
serves s server_auth = true
serves s client_auth = false
serves s code_signing = false
serves s email_protection = false
serves s time_stamping = false
serves s ocsp_signing = false
serves s any_usage = any_serves s
serves s other_usage = false

-- EKU, if present, has a usage that serves
unfoldable pub extended_key_usage_valid : Serving → Cert → Bool
extended_key_usage_valid s c = if_there (λ (e : Eku). any (serves s) e.usages) c.eku

-- KU, if present, has digital_signature, key_encipherment or key_agreement
unfoldable pub key_usage_serves : Cert → Bool
key_usage_serves c = if_there (λ (k : Ku). k.digital_signature || k.key_encipherment || k.key_agreement) c.ku

-- EKU, if present, has ServerAuth; the leaf's KU serves too
unfoldable pub check_purpose : Bool → Cert → Bool
check_purpose leaf c = extended_key_usage_valid Server c && (not leaf || key_usage_serves c)
