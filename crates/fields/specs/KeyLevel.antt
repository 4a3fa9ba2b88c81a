-- Rule 6: keys. Policies differ in the least bits and in whether DSA is allowed. Assumes nothing.
use Rattle.std.specs.Prelude.{ℕ, Bool, true, leb}
use Rattle.model.specs.Model.{Cert, Key, rsa, dsa, other_key}

-- RSA of at least so many bits, DSA only where it is allowed, any other key
unfoldable pub strong_key : ℕ → Bool → Key → Bool
strong_key least dsa_allowed (rsa bits) = leb least bits
strong_key least dsa_allowed dsa = dsa_allowed
strong_key least dsa_allowed other_key = true

-- the certificate's key is such a key
unfoldable pub check_cert_key_level : ℕ → Bool → Cert → Bool
check_cert_key_level least dsa_allowed c = strong_key least dsa_allowed c.key
