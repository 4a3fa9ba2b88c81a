-- What each policy asks of a chain, rule by rule (document 01, "The rules"). Assumes nothing.
use Rattle.std.specs.Prelude.{ℕ, ◌+◌, ◌-◌, ◌≤◌, ◌<◌, ◌≡◌, true, false, eqb}
use Rattle.model.specs.Model.{Chain, Lists}
use Rattle.fields.specs.Validity.{check_cert_time}
use Rattle.fields.specs.Signatures.{outer_inner_sig_match}
use Rattle.fields.specs.Uids.{issuer_subject_uid_version}
use Rattle.fields.specs.KeyUsage.{key_usage_non_empty}
use Rattle.fields.specs.KeyLevel.{check_cert_key_level}
use Rattle.key_ids.specs.KeyIds.{check_auth_subject_key_id}
use Rattle.purpose.specs.Purpose.{check_purpose, extended_key_usage_valid}
use Rattle.purpose.specs.declared.Serving.TheVariants.{ServerOrAny}
use Rattle.parts.specs.Ca.{check_ca}
use Rattle.parts.specs.PathLength.{path_length_holds}
use Rattle.parts.specs.SanNames.{check_san}
use Rattle.parts.specs.EmptySubject.{empty_subject_implies_critical_san}
use Rattle.issuing.specs.Issuing.{likely_issued}
use Rattle.constrained_o.specs.Rule14.{check_name_constraints as check_name_constraints_o}
use Rattle.constrained_c.specs.Rule14.{check_name_constraints as check_name_constraints_c}
use Rattle.constrained_c.specs.Rule16.{valid_dns_name_constraints}
use Rattle.hosts.specs.Hostname.{host_named as host_named_o}
use Rattle.hosts_c.specs.SanHost.{host_named as host_named_c}
use Rattle.roots.specs.Duration.{duration_holds}
use Rattle.roots.specs.Fingerprints.{not_in_crl, valid_root_fingerprint}
use Rattle.roots.specs.Symantec.{symantec_holds}
use Rattle.rules.specs.Rules.{is_root}

-- OpenSSL
pub record ObeysOpenSsl (c : Chain) : Type 0 where
  -- the chain has at least two certificates
  pub rule_1 : 2 ≤ c.count
  -- not before ≤ now ≤ not after
  pub rule_2 : (i : ℕ) → i < c.count → check_cert_time c.task (c.cert i) ≡ true
  -- inner and outer signature bytes equal
  pub rule_3 : (i : ℕ) → i < c.count → outer_inner_sig_match (c.cert i) ≡ true
  -- a UID only with version 2 or 3
  pub rule_4 : (i : ℕ) → i < c.count → issuer_subject_uid_version (c.cert i) ≡ true
  -- KU, if present, has a bit
  pub rule_5 : (i : ℕ) → i < c.count → key_usage_non_empty (c.cert i) ≡ true
  -- RSA of at least 1024 bits
  pub rule_6 : (i : ℕ) → i < c.count → check_cert_key_level 1024 true (c.cert i) ≡ true
  -- `check_auth_subject_key_id`, leaf 0, root n - 1
  pub rule_7 : (i : ℕ) → i < c.count → check_auth_subject_key_id (is_root c i) (eqb i 0) (c.cert i) ≡ true
  -- EKU, if present, has ServerAuth; at 0, KU if present has one of three bits
  pub rule_8 : (i : ℕ) → i < c.count → check_purpose (eqb i 0) (c.cert i) ≡ true
  -- above the leaf: BC present with CA; KU if present has key_cert_sign
  pub rule_9 : (i : ℕ) → 1 ≤ i → i < c.count → check_ca (c.cert i) ≡ true
  -- a path length is at least 0 and, above the leaf, at least i - 1
  pub rule_10 : (i : ℕ) → i < c.count → path_length_holds i (c.cert i) ≡ true
  -- SAN, if present, has a name
  pub rule_11 : (i : ℕ) → i < c.count → check_san (c.cert i) ≡ true
  -- the leaf: an empty subject needs a critical SAN
  pub rule_12 : empty_subject_implies_critical_san (c.cert 0) ≡ true
  -- each certificate was issued by the next
  pub rule_13 : (i : ℕ) → i + 1 < c.count → likely_issued (c.cert (i + 1)) (c.cert i) ≡ true
  -- each keeps the name constraints of those above it, the root's too
  pub rule_14 : (i j : ℕ) → 1 ≤ i → i < c.count → j < i → check_name_constraints_o (eqb j 0) (c.cert i) (c.cert j) ≡ true
  -- the leaf is one for the host, if there is one
  pub rule_15 : host_named_o c.task (c.cert 0) ≡ true

-- Chrome, whose lists are l
pub record ObeysChrome (c : Chain) (l : Lists) : Type 0 where
  -- the chain has at least two certificates
  pub rule_1 : 2 ≤ c.count
  -- not before ≤ now ≤ not after
  pub rule_2 : (i : ℕ) → i < c.count → check_cert_time c.task (c.cert i) ≡ true
  -- inner and outer signature bytes equal
  pub rule_3 : (i : ℕ) → i < c.count → outer_inner_sig_match (c.cert i) ≡ true
  -- a UID only with version 2 or 3
  pub rule_4 : (i : ℕ) → i < c.count → issuer_subject_uid_version (c.cert i) ≡ true
  -- KU, if present, has a bit
  pub rule_5 : (i : ℕ) → i < c.count → key_usage_non_empty (c.cert i) ≡ true
  -- RSA of at least 1024 bits, and no DSA
  pub rule_6 : (i : ℕ) → i < c.count → check_cert_key_level 1024 false (c.cert i) ≡ true
  -- below the root: EKU, if present, has ServerAuth or Any
  pub rule_8 : (i : ℕ) → i + 1 < c.count → extended_key_usage_valid ServerOrAny (c.cert i) ≡ true
  -- above the leaf: BC present with CA; KU if present has key_cert_sign
  pub rule_9 : (i : ℕ) → 1 ≤ i → i < c.count → check_ca (c.cert i) ≡ true
  -- a path length is at least 0 and, above the leaf, at least i - 1
  pub rule_10 : (i : ℕ) → i < c.count → path_length_holds i (c.cert i) ≡ true
  -- SAN, if present, has a name
  pub rule_11 : (i : ℕ) → i < c.count → check_san (c.cert i) ≡ true
  -- the leaf: an empty subject needs a critical SAN
  pub rule_12 : empty_subject_implies_critical_san (c.cert 0) ≡ true
  -- each certificate was issued by the next
  pub rule_13 : (i : ℕ) → i + 1 < c.count → likely_issued (c.cert (i + 1)) (c.cert i) ≡ true
  -- each keeps the name constraints of those above it, but for the root's
  pub rule_14 : (i j : ℕ) → 1 ≤ i → i + 1 < c.count → j < i → check_name_constraints_c (c.cert i) (c.cert j) ≡ true
  -- the leaf is one for the host, if there is one
  pub rule_15 : host_named_c l c.task (c.cert 0) ≡ true
  -- between leaf and root: each DNS constraint is one that Chrome takes
  pub rule_16 : (i : ℕ) → 1 ≤ i → i + 1 < c.count → valid_dns_name_constraints (c.cert i) ≡ true
  -- under a known root the leaf doesn't last too long
  pub rule_17 : duration_holds l (c.cert 0) (c.cert (c.count - 1)) ≡ true
  -- no fingerprint is in crl
  pub rule_18 : (i : ℕ) → i < c.count → not_in_crl l (c.cert i) ≡ true
  -- the root: `valid_root_fingerprint`
  pub rule_19 : valid_root_fingerprint l c.task (c.cert (c.count - 1)) ≡ true
  -- the root: one of Symantec's needs an exception at some position from 1 to n - 2
  pub rule_20 : symantec_holds l c ≡ true
