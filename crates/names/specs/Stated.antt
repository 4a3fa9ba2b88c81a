-- The same said with "for every" and "for some", as upstream's definitions say it; that the tests of Names.antt mean this is proved. Assumes nothing.
use Rattle.std.specs.Prelude.{ℕ, ◌≤◌, ◌<◌, ◌≡◌, [], length, get_or}
use Rattle.normal.specs.Normal.{normalize_string}
use Rattle.model.specs.Model.{Bytes, Attribute, Rdn, Name}
use Rattle.names.specs.declared.Values.{Values}
use Rattle.names.specs.declared.Values.TheVariants.{AsGiven, Normalised}

-- what stands for an attribute past the end; nothing below asks for it
abbrev pub no_attribute : Attribute
no_attribute = record { oid = []; value = [] }

-- attribute k of an RDN
abbrev pub attribute_of : Rdn → ℕ → Attribute
attribute_of r k = get_or r k no_attribute

-- RDN k of a name
abbrev pub rdn_of : Name → ℕ → Rdn
rdn_of n k = get_or n k []

-- a value as it is compared
unfoldable pub compared : Values → Bytes → Bytes
compared AsGiven a = a
compared Normalised a = normalize_string a

-- OIDs and values are equal
abbrev pub SameAttr : Values → Attribute → Attribute → Type 0
SameAttr v x y = (x.oid ≡ y.oid) × (compared v x.value ≡ compared v y.value)

-- the lengths are equal, and for every k below them the attributes are the same
abbrev pub SameRdn : Values → Rdn → Rdn → Type 0
SameRdn v r s = (length r ≡ length s) × ((k : ℕ) → k < length r → SameAttr v (attribute_of r k) (attribute_of s k))

-- the lengths are equal, and for every k below them the RDNs are the same
abbrev pub SameDn : Values → Name → Name → Type 0
SameDn v n m = (length n ≡ length m) × ((k : ℕ) → k < length n → SameRdn v (rdn_of n k) (rdn_of m k))

-- for some k below the length, attribute k is the same as x
abbrev pub RdnHasName : Values → Rdn → Attribute → Type 0
RdnHasName v r x = (k : ℕ) × (k < length r) × SameAttr v (attribute_of r k) x

-- the first is no longer than the second, which has every attribute k of it
abbrev pub IsSubtreeRdn : Values → Rdn → Rdn → Type 0
IsSubtreeRdn v r s = (length r ≤ length s) × ((k : ℕ) → k < length r → RdnHasName v s (attribute_of r k))

-- the first is no longer than the second, and for every k below its length its RDN k is a subtree of the second's
abbrev pub IsSubtreeOf : Values → Name → Name → Type 0
IsSubtreeOf v n m = (length n ≤ length m) × ((k : ℕ) → k < length n → IsSubtreeRdn v (rdn_of n k) (rdn_of m k))
