-- Rule 15 of Chrome said with "for every" and "for some", as upstream says it; that the tests of SanHost.antt mean this is proved. Assumes nothing.
use Rattle.std.specs.Prelude.{ℕ, ◌<◌, ◌≡◌, List, length}
use Rattle.std.proofs.Math.Option.{some}
use Rattle.patterns.specs.Patterns.{match_name, clean_name}
use Rattle.lists.specs.Stated.{Matched}
use Rattle.model.specs.Model.{Bytes, GeneralName, dns, San, Cert, Task, Lists}
use Rattle.sans.specs.Stated.{name_of, SomeDns}

-- for some k below the length, name k is a DNS name that, once cleaned, is the name
abbrev pub SomeExact : List GeneralName → Bytes → Type 0
SomeExact l name = (k : ℕ) × (k < length l) × (d : Bytes) × (name_of l k ≡ dns d) × (clean_name d ≡ name)

-- if some entry of public_suffix matches the name, some DNS name of the SAN, once cleaned, is the name; if no entry does, some DNS name of it, once cleaned, matches the name
pub record MatchSan (l : Lists) (s : San) (name : Bytes) : Type 0 where
  pub under_suffix : Matched l.public_suffix name → SomeExact s.names name
  pub under_none : (Matched l.public_suffix name → ⊥) → SomeDns (λ d. match_name (clean_name d) name) s.names

-- for every host that there is, the leaf has a SAN and it matches the cleaned host
abbrev pub HostNamed : Lists → Task → Cert → Type 0
HostNamed l t leaf = (host : Bytes) → t.host ≡ some host → (s : San) × (leaf.san ≡ some s) × MatchSan l s (clean_name host)
