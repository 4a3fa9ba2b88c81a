-- Rule 15 of OpenSSL said with "for every" and "for some", as upstream says it; that the tests of Hostname.antt mean this is proved. Assumes nothing.
use Rattle.std.specs.Prelude.{◌≡◌, ◌⊎◌}
use Rattle.std.proofs.Math.Option.{some}
use Rattle.model.specs.Model.{Bytes, San, Cert, Task}
use Rattle.sans.specs.Stated.{SomeDns, CheckSanHasDns, SomeCommon}
use Rattle.hosts.specs.Hostname.{names_host}

-- some DNS name of a SAN that is there names the host; or no SAN with a DNS name is there, and some common name of the subject does
abbrev pub CheckHostname : Cert → Bytes → Type 0
CheckHostname c host =
    ((s : San) × (c.san ≡ some s) × SomeDns (names_host host) s.names)
    ⊎ ((CheckSanHasDns c → ⊥) × SomeCommon (names_host host) c.subject)

-- the leaf is one for every host that there is
abbrev pub HostNamed : Task → Cert → Type 0
HostNamed t leaf = (host : Bytes) → t.host ≡ some host → CheckHostname leaf host
