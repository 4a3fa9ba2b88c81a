-- What the definitions of names mean: the same said another way, and laws that test them. Assumes nothing.
use native.Mathlib.Omega.{arith}
use mathlib.Core.Path.{◌≡◌, refl, sym, ap, ap₂, ◌∙◌}
use mathlib.Core.Logic.{◌↔◌}
use mathlib.Core.List.{[], ◌∷◌}
use mathlib.Core.Bool.{Bool, true, false, ◌&&◌, ◌||◌, or-true}
use borrow.Author.Tests.{le-leb, leb-true}
use lib.Dec.{eqb, leb}
use lib.ListN.{length}
use Rattle.laws.specs.Lists.{any, all, each, front, eq_list}
use Rattle.laws.proofs.Equal.{each_lengths, each_index, index_each, front_index, index_front, each_refl, each_sym, each_trans, equal_list, list_equal}
use Rattle.laws.proofs.Meaning.{any_index, index_any, all_index, index_all}
use Rattle.laws.proofs.Pairs.{any_follows, all_follows, each_follows, front_follows, each_front, front_trans}
use Rattle.laws.proofs.Tests.{and_left, and_right, eqb_sym}
use Rattle.normal.specs.Normal.{normalize_string, same_normal}
use Rattle.normal.proofs.Theorems.{same_forms, forms_same}
use Rattle.model.specs.Model.{Bytes, Attribute, Rdn, Name}
use Rattle.names.specs.declared.Values.{Values}
use Rattle.names.specs.declared.Values.TheVariants.{AsGiven, Normalised}
use Rattle.names.specs.Names.{same_value, same_attr, same_rdn, same_dn, rdn_has_name, is_subtree_rdn, is_subtree_of}
use Rattle.names.specs.Stated.{no_attribute, compared, SameAttr, SameRdn, SameDn, RdnHasName, IsSubtreeRdn, IsSubtreeOf}

-- both halves of an `&&`, from the two
both : {p q : Bool} → p ≡ true → q ≡ true → (p && q) ≡ true
both e f = rw e f

-- the second half of an `&&`, by what follows from it
and_follows : (p : Bool) {q r : Bool} → (q ≡ true → r ≡ true) → (p && q) ≡ true → (p && r) ≡ true
and_follows true f h = f h
and_follows false f h = h

-- ---- the definitions, said with "for every" and "for some"
same_value_means : (v : Values) (a b : Bytes) → (same_value v a b ≡ true) ↔ (compared v a ≡ compared v b)
unfolding same_value compared
same_value_means AsGiven a b = (equal_list a b, list_equal a b)
same_value_means Normalised a b = (same_forms a b, forms_same a b)

same_value_turned : (v : Values) (a b : Bytes) → same_value v a b ≡ same_value v b a
unfolding same_value same_normal
same_value_turned AsGiven a b = each_sym eqb eqb_sym a b
same_value_turned Normalised a b = each_sym eqb eqb_sym (normalize_string a) (normalize_string b)

module _ (v : Values) where
  pub same_attr_means : (x y : Attribute) → (same_attr v x y ≡ true) ↔ SameAttr v x y
  unfolding same_attr
  same_attr_means x y = (to, from) where
    to : same_attr v x y ≡ true → SameAttr v x y
    to h = (equal_list _ _ (and_left _ _ h), (same_value_means v _ _).0 (and_right (eq_list x.oid y.oid) _ h))

    from : SameAttr v x y → same_attr v x y ≡ true
    from (o, w) = both (list_equal _ _ o) ((same_value_means v _ _).1 w)

  pub same_rdn_means : (r s : Rdn) → (same_rdn v r s ≡ true) ↔ SameRdn v r s
  unfolding same_rdn
  same_rdn_means r s = (to, from) where
    to : same_rdn v r s ≡ true → SameRdn v r s
    to h = (each_lengths _ r s h, λ k l. (same_attr_means _ _).0 (each_index _ no_attribute no_attribute r s h k l))

    from : SameRdn v r s → same_rdn v r s ≡ true
    from (e, f) = index_each _ no_attribute no_attribute r s e (λ k l. (same_attr_means _ _).1 (f k l))

  pub same_dn_means : (n m : Name) → (same_dn v n m ≡ true) ↔ SameDn v n m
  unfolding same_dn
  same_dn_means n m = (to, from) where
    to : same_dn v n m ≡ true → SameDn v n m
    to h = (each_lengths _ n m h, λ k l. (same_rdn_means _ _).0 (each_index _ [] [] n m h k l))

    from : SameDn v n m → same_dn v n m ≡ true
    from (e, f) = index_each _ [] [] n m e (λ k l. (same_rdn_means _ _).1 (f k l))

  pub rdn_has_name_means : (r : Rdn) (x : Attribute) → (rdn_has_name v r x ≡ true) ↔ RdnHasName v r x
  unfolding rdn_has_name
  rdn_has_name_means r x = (to, from) where
    to : rdn_has_name v r x ≡ true → RdnHasName v r x
    to h = let (k, l, m, e) = any_index no_attribute (λ y. same_attr v y x) r h in (k, m, (same_attr_means _ _).0 e)

    from : RdnHasName v r x → rdn_has_name v r x ≡ true
    from (k, m, e) = index_any no_attribute (λ y. same_attr v y x) r (k, omega arith, m, (same_attr_means _ _).1 e)

  pub is_subtree_rdn_means : (r s : Rdn) → (is_subtree_rdn v r s ≡ true) ↔ IsSubtreeRdn v r s
  unfolding is_subtree_rdn
  is_subtree_rdn_means r s = (to, from) where
    to : is_subtree_rdn v r s ≡ true → IsSubtreeRdn v r s
    to h = (leb-true _ _ (and_left _ _ h), λ k l. (rdn_has_name_means s _).0 (all_index no_attribute (rdn_has_name v s) r (and_right (leb (length r) (length s)) _ h) k (omega arith) l))

    from : IsSubtreeRdn v r s → is_subtree_rdn v r s ≡ true
    from (e, f) = both (le-leb _ _ e) (index_all no_attribute (rdn_has_name v s) r (λ k l m. (rdn_has_name_means s _).1 (f k m)))

  pub is_subtree_of_means : (n m : Name) → (is_subtree_of v n m ≡ true) ↔ IsSubtreeOf v n m
  unfolding is_subtree_of
  is_subtree_of_means n m = (to, from) where
    to : is_subtree_of v n m ≡ true → IsSubtreeOf v n m
    to h = let (e, f) = front_index _ [] [] n m h in (e, λ k l. (is_subtree_rdn_means _ _).0 (f k l))

    from : IsSubtreeOf v n m → is_subtree_of v n m ≡ true
    from (e, f) = index_front _ [] [] n m e (λ k l. (is_subtree_rdn_means _ _).1 (f k l))

  -- ---- to be the same: each is the same as itself, it is asked either way round, and what is the same as a third is the same
  pub same_attr_itself : (x : Attribute) → same_attr v x x ≡ true
  same_attr_itself x = (same_attr_means x x).1 (refl, refl)

  pub same_attr_turned : (x y : Attribute) → same_attr v x y ≡ same_attr v y x
  unfolding same_attr
  same_attr_turned x y = ap₂ ◌&&◌ (each_sym eqb eqb_sym x.oid y.oid) (same_value_turned v x.value y.value)

  pub same_attr_through : (x y z : Attribute) → same_attr v x y ≡ true → same_attr v y z ≡ true → same_attr v x z ≡ true
  same_attr_through x y z h k = let (o, w) = (same_attr_means x y).0 h in let (p, u) = (same_attr_means y z).0 k in (same_attr_means x z).1 (o ∙ p, w ∙ u)

  same_rdn_itself : (r : Rdn) → same_rdn v r r ≡ true
  unfolding same_rdn
  same_rdn_itself = each_refl _ same_attr_itself

  same_rdn_turned : (r s : Rdn) → same_rdn v r s ≡ same_rdn v s r
  unfolding same_rdn
  same_rdn_turned = each_sym _ same_attr_turned

  same_rdn_through : (r s t : Rdn) → same_rdn v r s ≡ true → same_rdn v s t ≡ true → same_rdn v r t ≡ true
  unfolding same_rdn
  same_rdn_through = each_trans _ same_attr_through

  pub same_dn_itself : (n : Name) → same_dn v n n ≡ true
  unfolding same_dn
  same_dn_itself = each_refl _ same_rdn_itself

  pub same_dn_turned : (n m : Name) → same_dn v n m ≡ same_dn v m n
  unfolding same_dn
  same_dn_turned = each_sym _ same_rdn_turned

  pub same_dn_through : (n m o : Name) → same_dn v n m ≡ true → same_dn v m o ≡ true → same_dn v n o ≡ true
  unfolding same_dn
  same_dn_through = each_trans _ same_rdn_through

  -- ---- subtrees
  subtree_rdn_same : (r s : Rdn) → same_rdn v r s ≡ true → is_subtree_rdn v r s ≡ true
  subtree_rdn_same r s h = let (e, f) = (same_rdn_means r s).0 h in (is_subtree_rdn_means r s).1 (omega arith, λ k l. let (o, w) = f k l in (k, omega arith, (sym o, sym w)))

  subtree_rdn_through : (r s t : Rdn) → is_subtree_rdn v r s ≡ true → is_subtree_rdn v s t ≡ true → is_subtree_rdn v r t ≡ true
  subtree_rdn_through r s t h k =
      let (e, f) = (is_subtree_rdn_means r s).0 h in
      let (d, g) = (is_subtree_rdn_means s t).0 k in
      (is_subtree_rdn_means r t).1 (omega arith, λ i l. let (j, m, a) = f i l in let (z, q, b) = g j m in (z, q, (b.0 ∙ a.0, b.1 ∙ a.1)))

  -- same names are subtrees of one another
  pub subtree_same : (n m : Name) → same_dn v n m ≡ true → is_subtree_of v n m ≡ true
  unfolding same_dn is_subtree_of
  subtree_same = each_front subtree_rdn_same

  -- a name is a subtree of itself
  pub subtree_itself : (n : Name) → is_subtree_of v n n ≡ true
  subtree_itself n = subtree_same n n (same_dn_itself n)

  -- a subtree of a subtree is one
  pub subtree_through : (n m o : Name) → is_subtree_of v n m ≡ true → is_subtree_of v m o ≡ true → is_subtree_of v n o ≡ true
  unfolding is_subtree_of
  subtree_through = front_trans _ subtree_rdn_through

  -- the name without RDNs is a subtree of every name
  pub empty_subtree : (n : Name) → is_subtree_of v [] n ≡ true
  unfolding is_subtree_of front
  empty_subtree n = refl

  -- attributes in another order: the one RDN is a subtree of the other, and the same only if they are the same attribute
  pub any_order : (x y : Attribute) → is_subtree_rdn v (x ∷ y ∷ []) (y ∷ x ∷ []) ≡ true
  unfolding is_subtree_rdn rdn_has_name all any
  any_order x y = rw (same_attr_itself x, same_attr_itself y, or-true (same_attr v y x)) refl

  pub order_kept : (x y : Attribute) → same_rdn v (x ∷ y ∷ []) (y ∷ x ∷ []) ≡ true → same_attr v x y ≡ true
  unfolding same_rdn each
  order_kept x y h = and_left _ _ h

  -- one attribute serves twice
  pub serves_twice : (x y : Attribute) → is_subtree_rdn v (x ∷ x ∷ []) (x ∷ y ∷ []) ≡ true
  unfolding is_subtree_rdn rdn_has_name all any
  serves_twice x y = rw (same_attr_itself x) refl

-- ---- what is the same, found or a subtree with values as they stand, is so with normal forms too
normal_value : (a b : Bytes) → same_value AsGiven a b ≡ true → same_value Normalised a b ≡ true
unfolding same_value
normal_value a b h = forms_same a b (ap normalize_string (equal_list a b h))

-- upstream's `same_attr` asks normalised values to be equal or to have equal normal forms: the second is enough
pub equal_or_normal : (a b : Bytes) → (same_value AsGiven a b || same_value Normalised a b) ≡ same_value Normalised a b
equal_or_normal a b = go (same_value AsGiven a b) refl where
  go : (t : Bool) → same_value AsGiven a b ≡ t → (t || same_value Normalised a b) ≡ same_value Normalised a b
  go true h = sym (normal_value a b h)
  go false h = refl

pub normal_attr : (x y : Attribute) → same_attr AsGiven x y ≡ true → same_attr Normalised x y ≡ true
unfolding same_attr
normal_attr x y = and_follows (eq_list x.oid y.oid) (normal_value x.value y.value)

pub normal_rdn : (r s : Rdn) → same_rdn AsGiven r s ≡ true → same_rdn Normalised r s ≡ true
unfolding same_rdn
normal_rdn = each_follows normal_attr

pub normal_dn : (n m : Name) → same_dn AsGiven n m ≡ true → same_dn Normalised n m ≡ true
unfolding same_dn
normal_dn = each_follows normal_rdn

pub normal_has_name : (r : Rdn) (x : Attribute) → rdn_has_name AsGiven r x ≡ true → rdn_has_name Normalised r x ≡ true
unfolding rdn_has_name
normal_has_name r x = any_follows (λ y. normal_attr y x) r

pub normal_subtree_rdn : (r s : Rdn) → is_subtree_rdn AsGiven r s ≡ true → is_subtree_rdn Normalised r s ≡ true
unfolding is_subtree_rdn
normal_subtree_rdn r s = and_follows (leb (length r) (length s)) (all_follows (normal_has_name s) r)

pub normal_subtree : (n m : Name) → is_subtree_of AsGiven n m ≡ true → is_subtree_of Normalised n m ≡ true
unfolding is_subtree_of
normal_subtree = front_follows normal_subtree_rdn
