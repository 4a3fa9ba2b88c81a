-- What rules 14 and 16 of Chrome mean: the same said with "for every" and "for some", and laws that test them. Assumes nothing.
use native.Mathlib.Omega.{arith}
use mathlib.Core.Path.{◌≡◌, refl}
use mathlib.Core.Logic.{◌↔◌}
use mathlib.Core.List.{List}
use mathlib.Core.Bool.{true, false, false≢true}
use Rattle.laws.specs.Lists.{all}
use Rattle.laws.proofs.Meaning.{all_index, index_all}
use Rattle.laws.proofs.Optional.{if_there_means}
use Rattle.laws.proofs.Tests.{and_left, and_right}
use Rattle.patterns.specs.Patterns.{clean_name, permit_name, valid_name_constraint}
use Rattle.patterns.proofs.Theorems.{clean_lowered}
use Rattle.model.specs.Model.{Bytes, GeneralName, dns, directory, ip, other, unsupported, Cert}
use Rattle.sans.specs.Sans.{dns_and}
use Rattle.covering_dns.specs.Covers.{dns_covers, over_dns}
use Rattle.covering_dns.specs.declared.Covering.TheVariants.{Cleaned}
use Rattle.constraints.specs.Match.{asked_name}
use Rattle.constraints.specs.Stated.{is_general_subtree_of}
use Rattle.constraints.proofs.Theorems.{keeps_constraints_means}
use Rattle.constrained_c.specs.Rule14.{check_name_constraints}
use Rattle.constrained_c.specs.Rule16.{valid_if_dns, valid_dns_name_constraints}
use Rattle.constrained_c.specs.Stated.{CheckNameConstraints, EachDnsValid, ValidDnsNameConstraints}

-- ---- rule 14
pub check_name_constraints_means : (i j : Cert) → (check_name_constraints i j ≡ true) ↔ CheckNameConstraints i j
unfolding check_name_constraints
check_name_constraints_means i j = (to, from) where
  to : check_name_constraints i j ≡ true → CheckNameConstraints i j
  to h c e = let m = (keeps_constraints_means Cleaned false false i j).0 h c e (λ x y. false≢true x) in record { of_subject = m.of_subject; of_san = m.of_san }

  from : CheckNameConstraints i j → check_name_constraints i j ≡ true
  from f = (keeps_constraints_means Cleaned false false i j).1 (λ c e x. record { of_subject = (f c e).of_subject; of_san = (f c e).of_san; of_commons = λ y. absurd (false≢true y) })

-- the DNS constraint c covers the DNS name n exactly if, cleaned once, it covers the name cleaned twice
pub covers_cleaned : (c n : Bytes) → is_general_subtree_of Cleaned (dns c) (dns n) ≡ permit_name c (clean_name (clean_name n))
unfolding is_general_subtree_of asked_name over_dns dns_and dns_covers
covers_cleaned c n = rw (clean_lowered (clean_name n)) refl

-- ---- rule 16
if_dns_says : (n : GeneralName) → valid_if_dns n ≡ true → (t : Bytes) → n ≡ dns t → valid_name_constraint t ≡ true
unfolding valid_if_dns
if_dns_says n h t e = rw e at h

says_if_dns : (n : GeneralName) → ((t : Bytes) → n ≡ dns t → valid_name_constraint t ≡ true) → valid_if_dns n ≡ true
unfolding valid_if_dns
says_if_dns (dns t) f = f t refl
says_if_dns (directory n) f = refl
says_if_dns (ip a) f = refl
says_if_dns other f = refl
says_if_dns unsupported f = refl

each_dns_valid : (l : List GeneralName) → (all valid_if_dns l ≡ true) ↔ EachDnsValid l
each_dns_valid l = (to, from) where
  to : all valid_if_dns l ≡ true → EachDnsValid l
  to h k m = if_dns_says _ (all_index unsupported valid_if_dns l h k (omega arith) m)

  from : EachDnsValid l → all valid_if_dns l ≡ true
  from f = index_all unsupported valid_if_dns l (λ k a m. says_if_dns _ (f k m))

pub valid_dns_name_constraints_means : (c : Cert) → (valid_dns_name_constraints c ≡ true) ↔ ValidDnsNameConstraints c
unfolding valid_dns_name_constraints
valid_dns_name_constraints_means c = (to, from) where
  to : valid_dns_name_constraints c ≡ true → ValidDnsNameConstraints c
  to h n e = let both = (if_there_means _ c.nc).0 h n e in ((each_dns_valid n.permitted).0 (and_left _ _ both), (each_dns_valid n.excluded).0 (and_right (all valid_if_dns n.permitted) _ both))

  from : ValidDnsNameConstraints c → valid_dns_name_constraints c ≡ true
  from f = (if_there_means _ c.nc).1 (λ n e. rw ((each_dns_valid n.permitted).1 (f n e).0) ((each_dns_valid n.excluded).1 (f n e).1))
