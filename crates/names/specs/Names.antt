-- Distinguished names: when two are the same, and when one is a subtree of another (document 01, "Own text rules"; the rest as in `common.rs`). Assumes nothing.
use Rattle.std.specs.Prelude.{List, Bool, ◌&&◌, ℕ, leb, length}
use Rattle.laws.specs.Lists.{any, all, each, front, eq_list}
use Rattle.normal.specs.Normal.{same_normal}
use Rattle.table.specs.Table.{over}
use Rattle.table.specs.declared.Range.{Range}
use Rattle.model.specs.Model.{Bytes, Attribute, Rdn, Name}
use Rattle.model.specs.Decode.{attribute_at}
use Rattle.names.specs.declared.Values.{Values}
use Rattle.names.specs.declared.Values.TheVariants.{AsGiven, Normalised}

-- equal values: as they stand, or their normal forms
unfoldable pub same_value : Values → Bytes → Bytes → Bool
same_value AsGiven a b = eq_list a b
same_value Normalised a b = same_normal a b

-- equal OID, equal value
unfoldable pub same_attr : Values → Attribute → Attribute → Bool
same_attr v x y = eq_list x.oid y.oid && same_value v x.value y.value

-- equally many attributes, and each is the same as the other's at its place
unfoldable pub same_rdn : Values → Rdn → Rdn → Bool
same_rdn v = each (same_attr v)

-- equally many RDNs, and each is the same as the other's at its place
unfoldable pub same_dn : Values → Name → Name → Bool
same_dn v = each (same_rdn v)

-- some attribute of the RDN is the same as x
unfoldable pub rdn_has_name : Values → Rdn → Attribute → Bool
rdn_has_name v r x = any (λ y. same_attr v y x) r

-- the first RDN has no more attributes than the second, and the second has each of them, in any order; one may serve twice
unfoldable pub is_subtree_rdn : Values → Rdn → Rdn → Bool
is_subtree_rdn v r s = leb (length r) (length s) && all (rdn_has_name v s) r

-- the first name has no more RDNs than the second, and each is a subtree of the other's at its place
unfoldable pub is_subtree_of : Values → Name → Name → Bool
is_subtree_of v = front (is_subtree_rdn v)

-- the RDN that a range of A is
abbrev pub rdn_in : List ℕ → List ℕ → Range → Rdn
rdn_in w b r = over (attribute_at w b) r
