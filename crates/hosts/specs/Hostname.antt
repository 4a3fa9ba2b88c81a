-- Rule 15 of OpenSSL (the body of `check_hostname` in openssl.rs). Assumes nothing.
use Rattle.std.specs.Prelude.{Bool, not, ◌&&◌, ◌||◌}
use Rattle.laws.specs.Lists.{any}
use Rattle.laws.specs.Optional.{if_there, there_and}
use Rattle.text.specs.Texts.{lowered}
use Rattle.patterns.specs.Patterns.{match_name, check_valid_pattern}
use Rattle.model.specs.Model.{Bytes, San, Cert, Task}
use Rattle.sans.specs.Sans.{dns_and, check_san_has_dns, some_common}

-- a text names the host: it is a valid pattern and, lowered, matches the lowered host
unfoldable pub names_host : Bytes → Bytes → Bool
names_host host s = check_valid_pattern s && match_name (lowered s) (lowered host)

-- some DNS name of the SAN names the host; or there is no DNS name in it, or no SAN, and some common name of the subject does
unfoldable pub check_hostname : Cert → Bytes → Bool
check_hostname c host =
    there_and (λ (s : San). any (dns_and (names_host host)) s.names) c.san
    || (not (check_san_has_dns c) && some_common (names_host host) c.subject)

-- the leaf is one for the host, if there is a host
unfoldable pub host_named : Task → Cert → Bool
host_named t leaf = if_there (check_hostname leaf) t.host
