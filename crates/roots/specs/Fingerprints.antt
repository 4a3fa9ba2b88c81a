-- Rules 18 and 19: what a certificate's fingerprint shuts out. Assumes nothing.
use Rattle.std.specs.Prelude.{List, Bool, not, ◌&&◌, ◌||◌}
use Rattle.laws.specs.Optional.{if_there}
use Rattle.text.specs.Texts.{lowered}
use Rattle.lists.specs.Listed.{listed, matched}
use Rattle.model.specs.Model.{Bytes, Cert, Task, Lists}

-- rule 18: the fingerprint is not in crl
unfoldable pub not_in_crl : Lists → Cert → Bool
not_in_crl l c = not (listed l.crl c.fingerprint)

-- a root whose fingerprint is in `trusted` is one for the hosts that an entry of `domains` matches
unfoldable pub serves_domains : List Bytes → List Bytes → Bytes → Bytes → Bool
serves_domains trusted domains fingerprint host = not (listed trusted fingerprint) || matched domains host

-- by india's lists and by anssi's the root is one for the host, which is lowered and not cleaned
unfoldable pub serves_host : Lists → Cert → Bytes → Bool
serves_host l root host =
    serves_domains l.india_trusted l.india_domains root.fingerprint (lowered host)
    && serves_domains l.anssi_trusted l.anssi_domains root.fingerprint (lowered host)

-- rule 19: if there is a host, that
unfoldable pub valid_root_fingerprint : Lists → Task → Cert → Bool
valid_root_fingerprint l t root = if_there (serves_host l root) t.host
