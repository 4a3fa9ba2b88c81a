-- What the definitions of this crate mean: the same said with "for every" and "for some". Assumes nothing.
use native.Mathlib.Omega.{arith}
use Prim.Native.Nat.{ℕ}
use mathlib.Core.Path.{◌≡◌, refl, sym, ap, ◌∙◌}
use mathlib.Core.Logic.{◌↔◌}
use mathlib.Core.List.{List, []}
use mathlib.Core.Bool.{Bool, true, false, not, ◌||◌, false≢true}
use mathlib.Core.Option.{Option, none, some}
use Rattle.laws.specs.Lists.{any, all}
use Rattle.laws.specs.Optional.{there_and}
use Rattle.laws.proofs.Equal.{equal_list, list_equal}
use Rattle.laws.proofs.Meaning.{any_index, index_any, all_index, index_all, any_agree}
use Rattle.laws.proofs.Tests.{and_left, and_right}
use Rattle.model.specs.Model.{Bytes, Attribute, Name, GeneralName, dns, directory, ip, other, unsupported, San, Cert}
use Rattle.names.specs.Stated.{no_attribute, attribute_of, rdn_of}
use Rattle.std.specs.declared.result.Result.{Result}
use Rattle.std.specs.declared.result.Result.TheVariants.{Ok, Err}
use Rattle.sans.specs.declared.Kind.{Kind}
use Rattle.sans.specs.declared.Kind.TheVariants.{Dns, Directory, Ip}
use Rattle.sans.specs.declared.OtherKind.{OtherKind}
use Rattle.sans.specs.Kinds.{Decodes}
use Rattle.sans.specs.Sans.{number_of, is_kind, dns_and, check_san_has_dns, is_common, common_and, if_common, some_common, each_common}
use Rattle.sans.proofs.Laws.{number_low}
use Rattle.sans.specs.Stated.{SomeDns, CheckSanHasDns, IsCommon, SomeCommon, EachCommon}

-- what is there and passes
module _ {A : Type 0} (p : A → Bool) where
  there_passes : (o : Option A) → there_and p o ≡ true → (x : A) × (o ≡ some x) × (p x ≡ true)
  there_passes none h = absurd (false≢true h)
  there_passes (some x) h = (x, refl, h)

  pub there_means : (o : Option A) → (there_and p o ≡ true) ↔ ((x : A) × (o ≡ some x) × (p x ≡ true))
  there_means o = (there_passes o, λ (x, e, h). rw e h)

-- ---- DNS names
dns_passes : (p : Bytes → Bool) (n : GeneralName) → dns_and p n ≡ true → (t : Bytes) × (n ≡ dns t) × (p t ≡ true)
unfolding dns_and
dns_passes p (dns t) h = (t, refl, h)
dns_passes p (directory n) h = absurd (false≢true h)
dns_passes p (ip a) h = absurd (false≢true h)
dns_passes p other h = absurd (false≢true h)
dns_passes p unsupported h = absurd (false≢true h)

passes_dns : (p : Bytes → Bool) (n : GeneralName) (t : Bytes) → n ≡ dns t → p t ≡ true → dns_and p n ≡ true
unfolding dns_and
passes_dns p n t e h = rw e h

pub some_dns_means : (p : Bytes → Bool) (l : List GeneralName) → (any (dns_and p) l ≡ true) ↔ SomeDns p l
some_dns_means p l = (to, from) where
  to : any (dns_and p) l ≡ true → SomeDns p l
  to h = let (k, a, m, e) = any_index unsupported (dns_and p) l h in let (t, f, q) = dns_passes p _ e in (k, m, t, f, q)

  from : SomeDns p l → any (dns_and p) l ≡ true
  from (k, m, t, f, q) = index_any unsupported (dns_and p) l (k, omega arith, m, passes_dns p _ t f q)

-- to be of the kind is to pass whatever the text
dns_kind : (n : GeneralName) → is_kind Dns n ≡ dns_and (λ t. true) n
unfolding is_kind dns_and
dns_kind (dns t) = refl
dns_kind (directory n) = refl
dns_kind (ip a) = refl
dns_kind other = refl
dns_kind unsupported = refl

pub check_san_has_dns_means : (c : Cert) → (check_san_has_dns c ≡ true) ↔ CheckSanHasDns c
unfolding check_san_has_dns
check_san_has_dns_means c = (to, from) where
  has_dns : San → Bool
  has_dns s = any (is_kind Dns) s.names

  to : check_san_has_dns c ≡ true → CheckSanHasDns c
  to h = let (s, e, q) = there_passes has_dns c.san h in (s, e, (some_dns_means (λ t. true) s.names).0 (rw (any_agree dns_kind s.names) at q))

  from : CheckSanHasDns c → check_san_has_dns c ≡ true
  from (s, e, q) = rw e (rw (any_agree dns_kind s.names) ((some_dns_means (λ t. true) s.names).1 q))

-- ---- common names
module _ (p : Bytes → Bool) where
  if_common_law : (a : Attribute) → if_common p a ≡ true → IsCommon a → p a.value ≡ true
  unfolding if_common is_common
  if_common_law a h e = rw (list_equal _ _ e) at h

  common_if : (a : Attribute) → (IsCommon a → p a.value ≡ true) → if_common p a ≡ true
  unfolding if_common is_common
  common_if a f = go (is_common a) refl where
    go : (t : Bool) → is_common a ≡ t → (not t || p a.value) ≡ true
    go true e = f (equal_list _ _ e)
    go false e = refl

  pub some_common_means : (n : Name) → (some_common p n ≡ true) ↔ SomeCommon p n
  unfolding some_common common_and is_common
  some_common_means n = (to, from) where
    to : some_common p n ≡ true → SomeCommon p n
    to h =
        let (i, a, l, e) = any_index [] (any (common_and p)) n h in
        let (j, b, m, f) = any_index no_attribute (common_and p) _ e in
        (i, l, j, m, equal_list _ _ (and_left _ _ f), and_right (is_common (attribute_of (rdn_of n i) j)) _ f)

    from : SomeCommon p n → some_common p n ≡ true
    from (i, l, j, m, e, q) = index_any [] (any (common_and p)) n (i, omega arith, l, index_any no_attribute (common_and p) _ (j, omega arith, m, rw (list_equal _ _ e) q))

  pub each_common_means : (n : Name) → (each_common p n ≡ true) ↔ EachCommon p n
  unfolding each_common
  each_common_means n = (to, from) where
    to : each_common p n ≡ true → EachCommon p n
    to h i l j m = if_common_law _ (all_index no_attribute (if_common p) _ (all_index [] (all (if_common p)) n h i (omega arith) l) j (omega arith) m)

    from : EachCommon p n → each_common p n ≡ true
    from f = index_all [] (all (if_common p)) n (λ i a l. index_all no_attribute (if_common p) _ (λ j b m. common_if _ (f i l j m)))

-- ---- a word as a kind: two answers that `Decodes` allows are equal
number_once : (k l : Kind) → number_of k ≡ number_of l → k ≡ l
number_once Dns Dns e = refl
number_once Dns Directory e = absurd (omega (arith, e))
number_once Dns Ip e = absurd (omega (arith, e))
number_once Directory Dns e = absurd (omega (arith, e))
number_once Directory Directory e = refl
number_once Directory Ip e = absurd (omega (arith, e))
number_once Ip Dns e = absurd (omega (arith, e))
number_once Ip Directory e = absurd (omega (arith, e))
number_once Ip Ip e = refl

pub decodes_once : (word : ℕ) (r s : Result Kind OtherKind) → Decodes word r → Decodes word s → r ≡ s
decodes_once word (Ok k) (Ok l) e f = ap Ok (number_once k l (sym e ∙ f))
decodes_once word (Ok k) (Err o) e f = let h = number_low k in absurd (omega (arith, e, f.1, h))
decodes_once word (Err o) (Ok l) e f = let h = number_low l in absurd (omega (arith, e.1, f, h))
decodes_once word (Err o) (Err p) e f = ap (λ n. Err (record { 0 = n })) (e.0 ∙ sym f.0)
