-- Rule 15 of Chrome (the bodies of `match_san` and `has_public_suffix` in chrome.rs). Assumes nothing.
use Rattle.std.specs.Prelude.{Bool}
use Rattle.laws.specs.Lists.{any, eq_list, pick}
use Rattle.laws.specs.Optional.{if_there, there_and}
use Rattle.patterns.specs.Patterns.{match_name, clean_name}
use Rattle.lists.specs.Listed.{matched}
use Rattle.model.specs.Model.{Bytes, San, Cert, Task, Lists}
use Rattle.sans.specs.Sans.{dns_and}

-- an entry of public_suffix matches the name
unfoldable pub has_public_suffix : Lists → Bytes → Bool
has_public_suffix l name = matched l.public_suffix name

-- a DNS name d, once cleaned, matches the name; where only an exact one will do, it equals it
unfoldable pub names_clean : Bool → Bytes → Bytes → Bool
names_clean exact name d = pick exact (eq_list (clean_name d) name) (match_name (clean_name d) name)

-- some DNS name of the SAN does; under a public suffix only an exact one will do
unfoldable pub match_san : Lists → San → Bytes → Bool
match_san l s name = any (dns_and (names_clean (has_public_suffix l name) name)) s.names

-- the leaf is one for the host, if there is a host: its SAN is there and matches the cleaned host
unfoldable pub host_named : Lists → Task → Cert → Bool
host_named l t leaf = if_there (λ (host : Bytes). there_and (λ (s : San). match_san l s (clean_name host)) leaf.san) t.host
