-- What the functions of this crate lean on. Assumes nothing.
use Prim.Native.Nat.{ℕ, ◌-◌, ◌≤◌, ◌<◌}
use mathlib.Core.Path.{◌≡◌, refl}
use mathlib.Core.Bool.{Bool, true, false}
use lib.Dec.{leb}
use lib.ListN.{length}
use borrow.Author.Tests.{le-leb, lt-leb}
use Rattle.laws.specs.Lists.{all, eq_list}
use Rattle.laws.proofs.Rows.{rows_length}
use Rattle.laws.proofs.Tests.{and_then, and_stop}
use Rattle.normal.specs.Normal.{same_normal}
use Rattle.table.specs.Table.{over}
use Rattle.table.specs.declared.Range.{Range}
use Rattle.model.specs.Model.{Bytes, Attribute}
use Rattle.names.specs.declared.Values.{Values}
use Rattle.names.specs.declared.Values.TheVariants.{AsGiven, Normalised}
use Rattle.names.specs.Names.{same_value, same_attr, rdn_has_name, is_subtree_rdn}

-- ---- values, by how they are compared
module _ (v : Values) (a b : Bytes) {r : Bool} where
  pub as_given : v ≡ AsGiven → r ≡ eq_list a b → r ≡ same_value v a b
  unfolding same_value
  as_given e h = rw e h

  pub normalised : v ≡ Normalised → r ≡ same_normal a b → r ≡ same_value v a b
  unfolding same_value
  normalised e h = rw e h

-- ---- attributes, of which OIDs and values were fetched
module _ (v : Values) (x y : Attribute) {i j : Bytes} (p : i ≡ x.oid) (q : j ≡ y.oid) {r : Bool} (e : r ≡ eq_list i j) where
  pub oids_equal : {k l : Bytes} {s : Bool} → r ≡ true → k ≡ x.value → l ≡ y.value → s ≡ same_value v k l → s ≡ same_attr v x y
  unfolding same_attr
  oids_equal h m n t = and_then (rw (p, q) at e) h (rw (m, n) at t)

  pub oids_differ : r ≡ false → false ≡ same_attr v x y
  unfolding same_attr
  oids_differ h = and_stop (rw (p, q) at e) _ h

-- ---- a subtree of an RDN, told by the lengths first: the RDNs are those of i and j, n and m their lengths
module _ (v : Values) (g : ℕ → Attribute) {x y i j : Range} (s : x ≡ i) (t : y ≡ j) {n m : ℕ} (p : n ≡ x.to - x.from) (q : m ≡ y.to - y.from) where
  lengths : leb (length (over g i)) (length (over g j)) ≡ leb n m
  lengths = rw (← s, ← t, rows_length g x.from x.to, rows_length g y.from y.to, p, q) refl

  pub longer : m < n → false ≡ is_subtree_rdn v (over g i) (over g j)
  unfolding is_subtree_rdn
  longer h = rw (lengths, lt-leb n m h) refl

  pub no_longer : {r : Bool} → n ≤ m → r ≡ all (rdn_has_name v (over g y)) (over g x) → r ≡ is_subtree_rdn v (over g i) (over g j)
  unfolding is_subtree_rdn
  no_longer h e = rw (lengths, le-leb n m h, ← s, ← t) e
