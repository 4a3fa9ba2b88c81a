-- Rule 5: a KU says something. Assumes nothing.
use Rattle.std.specs.Prelude.{Bool, ◌||◌}
use Rattle.laws.specs.Optional.{if_there}
use Rattle.model.specs.Model.{Cert, Ku}

-- one of the nine bits
unfoldable pub has_bit : Ku → Bool
has_bit k =
    k.digital_signature
    || k.non_repudiation
    || k.key_encipherment
    || k.data_encipherment
    || k.key_agreement
    || k.key_cert_sign
    || k.crl_sign
    || k.encipher_only
    || k.decipher_only

-- KU, if present, has a bit
unfoldable pub key_usage_non_empty : Cert → Bool
key_usage_non_empty c = if_there has_bit c.ku
