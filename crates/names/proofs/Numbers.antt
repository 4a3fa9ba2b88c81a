-- Attributes with the same string numbers are the same. Assumes nothing.
use Prim.Native.Nat.{ℕ}
use mathlib.Core.Path.{◌≡◌, sym, ◌∙◌}
use mathlib.Core.List.{List}
use mathlib.Core.Bool.{Bool, true}
use lib.Dec.{eqb}
use borrow.Author.Tests.{eqb-true}
use Rattle.laws.proofs.Tests.{and_left, and_right}
use Rattle.table.specs.Table.{field_of}
use Rattle.model.specs.Sections.{attributes}
use Rattle.model.specs.Decode.{oid_at, value_at, attribute_at}
use Rattle.names.specs.declared.Values.{Values}
use Rattle.names.specs.Names.{same_attr}
use Rattle.names.specs.Numbers.{same_numbers}
use Rattle.names.proofs.Theorems.{same_attr_itself}

pub numbers_same : (v : Values) (w b : List ℕ) (x y : ℕ) {r : Bool} → r ≡ same_numbers w x y → r ≡ true → true ≡ same_attr v (attribute_at w b x) (attribute_at w b y)
unfolding same_numbers oid_at value_at
numbers_same v w b x y e t =
    let h = sym e ∙ t in
    let oids = eqb (field_of w attributes x 0) (field_of w attributes y 0) in
    let values = eqb (field_of w attributes x 1) (field_of w attributes y 1) in
    let o = eqb-true (field_of w attributes x 0) (field_of w attributes y 0) (and_left oids values h) in
    let u = eqb-true (field_of w attributes x 1) (field_of w attributes y 1) (and_right oids values h) in
    rw (o, u) (sym (same_attr_itself v (attribute_at w b y)))
