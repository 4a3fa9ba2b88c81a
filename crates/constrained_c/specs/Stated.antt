-- Rules 14 and 16 of Chrome said with "for every" and "for some", as upstream says them; that the tests of Rule14.antt and Rule16.antt mean this is proved. Assumes nothing.
use Rattle.std.specs.Prelude.{ℕ, ◌<◌, ◌≡◌, List, [], true, length}
use Rattle.std.proofs.Math.Option.{some}
use Rattle.patterns.specs.Patterns.{valid_name_constraint}
use Rattle.model.specs.Model.{Bytes, GeneralName, dns, directory, San, Nc, Cert}
use Rattle.sans.specs.Stated.{name_of}
use Rattle.covering_dns.specs.declared.Covering.TheVariants.{Cleaned}
use Rattle.constraints.specs.Stated.{NcMatch, CheckSanConstraints}

-- j passes the constraints c: its subject, unless it is empty, as a directory name, and every name of its SAN. Nobody is exempt, and no common name is asked.
-- Which names a DNS constraint covers, `covers_cleaned` says (proofs/Theorems.antt): the name is cleaned just twice, the constraint once.
pub record Passes (c : Nc) (j : Cert) : Type 0 where
  pub of_subject : (j.subject ≡ [] → ⊥) → NcMatch Cleaned c.permitted c.excluded (directory j.subject)
  pub of_san : (s : San) → j.san ≡ some s → CheckSanConstraints Cleaned c.permitted c.excluded s

-- rule 14: if i has constraints, j passes
abbrev pub CheckNameConstraints : Cert → Cert → Type 0
CheckNameConstraints i j = (c : Nc) → i.nc ≡ some c → Passes c j

-- for every k below the length, name k, if it is a DNS name, is one that Chrome takes as a constraint
abbrev pub EachDnsValid : List GeneralName → Type 0
EachDnsValid l = (k : ℕ) → k < length l → (t : Bytes) → name_of l k ≡ dns t → valid_name_constraint t ≡ true

-- rule 16: such are the permitted names and the excluded names, if the certificate has constraints
abbrev pub ValidDnsNameConstraints : Cert → Type 0
ValidDnsNameConstraints c = (n : Nc) → c.nc ≡ some n → EachDnsValid n.permitted × EachDnsValid n.excluded
