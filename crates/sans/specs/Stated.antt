-- The same said with "for every" and "for some", as upstream's definitions say it; that the tests of Sans.antt mean this is proved. Assumes nothing.
use Rattle.std.specs.Prelude.{ℕ, ◌<◌, ◌≡◌, List, Bool, true, length, get_or}
use Rattle.std.proofs.Math.Option.{some}
use Rattle.text.specs.Texts.{quoted}
use Rattle.model.specs.Model.{Bytes, Attribute, Name, GeneralName, dns, unsupported, San, Cert}
use Rattle.names.specs.Stated.{attribute_of, rdn_of}

-- name k of a list
abbrev pub name_of : List GeneralName → ℕ → GeneralName
name_of l k = get_or l k unsupported

-- for some k below the length, name k is a DNS name that passes
abbrev pub SomeDns : (Bytes → Bool) → List GeneralName → Type 0
SomeDns p l = (k : ℕ) × (k < length l) × (t : Bytes) × (name_of l k ≡ dns t) × (p t ≡ true)

-- the SAN is there, and for some k below its length name k is a DNS name
abbrev pub CheckSanHasDns : Cert → Type 0
CheckSanHasDns c = (s : San) × (c.san ≡ some s) × SomeDns (λ t. true) s.names

-- its OID is 2.5.4.3
abbrev pub IsCommon : Attribute → Type 0
IsCommon a = a.oid ≡ quoted "2.5.4.3"

-- for some i and j, attribute j of RDN i is a common name whose value passes
abbrev pub SomeCommon : (Bytes → Bool) → Name → Type 0
SomeCommon p n = (i : ℕ) × (i < length n) × (j : ℕ) × (j < length (rdn_of n i)) × IsCommon (attribute_of (rdn_of n i) j) × (p (attribute_of (rdn_of n i) j).value ≡ true)

-- for every i and j: if attribute j of RDN i is a common name, its value passes
abbrev pub EachCommon : (Bytes → Bool) → Name → Type 0
EachCommon p n = (i : ℕ) → i < length n → (j : ℕ) → j < length (rdn_of n i) → IsCommon (attribute_of (rdn_of n i) j) → p (attribute_of (rdn_of n i) j).value ≡ true
