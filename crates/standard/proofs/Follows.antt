-- Each published rule from the tests of document 01's rules, once for all policies. Assumes nothing.
use Prim.Native.Nat.{ℕ, ◌-◌, ◌≤◌, ◌<◌}
use native.Mathlib.Omega.{arith}
use mathlib.Core.Path.{◌≡◌, refl}
use mathlib.Core.Logic.{◌⊎◌, inl, inr, ⊎_elim, ⊎_map}
use mathlib.Core.Bool.{Bool, true, false, not, ◌||◌, false≢true, or_assoc, or-true, and-false}
use mathlib.Core.Option.{some}
use lib.Dec.{eqb, leb}
use borrow.Author.Tests.{ne_eqb, eqb-true}
use Rattle.laws.specs.Lists.{pick}
use Rattle.laws.specs.Optional.{if_there, there_and, is_there}
use Rattle.laws.proofs.Optional.{if_there_means, is_there_means}
use Rattle.laws.proofs.Tests.{and_left, and_right}
use Rattle.model.specs.Model.{Chain, Cert, Mark, critical, Aki, Ski, Bc}
use Rattle.fields.specs.Validity.{check_cert_time}
use Rattle.fields.specs.Signatures.{outer_inner_sig_match}
use Rattle.fields.specs.Uids.{issuer_subject_uid_version, has_uid}
use Rattle.fields.specs.KeyUsage.{has_bit, key_usage_non_empty}
use Rattle.fields.specs.KeyLevel.{check_cert_key_level}
use Rattle.fields.proofs.Theorems.{check_cert_time_means, outer_inner_sig_match_means, check_cert_key_level_means}
use Rattle.parts.specs.Ca.{check_ca}
use Rattle.parts.specs.EmptySubject.{empty_subject_implies_critical_san}
use Rattle.key_ids.specs.KeyIds.{ids_not_critical, has_key_ids, has_no_parts, check_auth_subject_key_id}
use Rattle.model.specs.Marks.{is_critical}
use Rattle.parts.specs.PathLength.{path_length_holds}
use Rattle.parts.specs.SanNames.{check_san}
use Rattle.parts.proofs.Theorems.{check_ca_means, path_length_holds_means, check_san_means, empty_subject_means}
use Rattle.rules.specs.Rules.{is_root}
use Rattle.standard.specs.Standard.{root, NoExpiration, OuterInnerSigMatch, KeyUsageNonEmpty, IssuerSubjectUIDVersion, PathLenNonNegative, PathLenConstraint, NonLeafMustBeCA, NonLeafHasKeyCertSign, NonEmptySAN, AKINonCritical, NonLeafHasSKI, EmptySubjectImpliesCriticalSAN, NonCriticalRootSKI, NoDSA}

-- the first half of an `||` that holds, or what follows from the second
either : {A : Type 0} (p q : Bool) → (q ≡ true → A) → (p || q) ≡ true → (p ≡ true) ⊎ A
either true q f h = inl refl
either false q f h = inr (f h)

-- AKI and SKI that are not critical don't have that mark
not_marked : (m : Mark) → not (is_critical m) ≡ true → m ≡ critical → ⊥
unfolding is_critical
not_marked m h e = false≢true (rw e at h)

aki_unmarked : (d : Cert) → ids_not_critical d ≡ true → (a : Aki) → d.aki ≡ some a → a.mark ≡ critical → ⊥
unfolding ids_not_critical
aki_unmarked d h a e = not_marked a.mark ((if_there_means (λ (x : Aki). not (is_critical x.mark)) d.aki).0 (and_left _ _ h) a e)

ski_unmarked : (d : Cert) → ids_not_critical d ≡ true → (s : Ski) → d.ski ≡ some s → s.mark ≡ critical → ⊥
unfolding ids_not_critical
ski_unmarked d h s e = not_marked s.mark ((if_there_means (λ (x : Ski). not (is_critical x.mark)) d.ski).0 (and_right (if_there (λ (x : Aki). not (is_critical x.mark)) d.aki) _ h) s e)

-- below version 2 there is no BC
no_bc : (c : Cert) (b : Bc) → has_no_parts c ≡ true → c.bc ≡ some b → ⊥
unfolding has_no_parts
no_bc c b h e = false≢true (rw (e, and-false) at h)

module _ (c : Chain) where
  -- ---- rules 2 to 6
  pub no_expiration : ((i : ℕ) → i < c.count → check_cert_time c.task (c.cert i) ≡ true) → NoExpiration c
  no_expiration h i l = (check_cert_time_means c.task (c.cert i)).0 (h i l)

  pub outer_inner_sig_match_law : ((i : ℕ) → i < c.count → outer_inner_sig_match (c.cert i) ≡ true) → OuterInnerSigMatch c
  outer_inner_sig_match_law h i l = (outer_inner_sig_match_means (c.cert i)).0 (h i l)

  pub key_usage_non_empty_law : ((i : ℕ) → i < c.count → key_usage_non_empty (c.cert i) ≡ true) → KeyUsageNonEmpty c
  unfolding key_usage_non_empty has_bit
  key_usage_non_empty_law h i l k e =
      either _ _ (either _ _ (either _ _ (either _ _ (either _ _ (either _ _ (either _ _ (either _ _ (λ b. b)))))))) (simp or_assoc at ((if_there_means has_bit (c.cert i).ku).0 (h i l) k e))

  pub issuer_subject_uid_version_law : ((i : ℕ) → i < c.count → issuer_subject_uid_version (c.cert i) ≡ true) → IssuerSubjectUIDVersion c
  unfolding issuer_subject_uid_version
  issuer_subject_uid_version_law h i l u = ⊎_elim (λ (t, e). fits (rw e refl)) (λ (t, e). fits (rw (e, or-true) refl)) u where
    fits : has_uid (c.cert i) ≡ true → ((c.cert i).version ≡ 2) ⊎ ((c.cert i).version ≡ 3)
    fits t = ⊎_map (eqb-true _ _) (λ v. v) (either (eqb (c.cert i).version 2) _ (eqb-true (c.cert i).version 3) (rw t at (h i l)))

  pub no_dsa : (least : ℕ) → ((i : ℕ) → i < c.count → check_cert_key_level least false (c.cert i) ≡ true) → NoDSA c
  no_dsa least h i l e = false≢true (((check_cert_key_level_means least false (c.cert i)).0 (h i l)).1 e)

  -- ---- rules 9 to 12
  module _ (ca : (i : ℕ) → 1 ≤ i → i < c.count → check_ca (c.cert i) ≡ true) where
    pub non_leaf_must_be_ca : NonLeafMustBeCA c
    non_leaf_must_be_ca i m l = ((check_ca_means (c.cert i)).0 (ca i (omega arith) l)).0

    pub non_leaf_has_key_cert_sign : NonLeafHasKeyCertSign c
    non_leaf_has_key_cert_sign i m l = ((check_ca_means (c.cert i)).0 (ca i (omega arith) l)).1

  module _ (long : (i : ℕ) → i < c.count → path_length_holds i (c.cert i) ≡ true) where
    pub path_len_non_negative : PathLenNonNegative c
    path_len_non_negative i l b e n f = ((path_length_holds_means i (c.cert i)).0 (long i l) b e n f).0

    pub path_len_constraint : PathLenConstraint c
    path_len_constraint i m l b e n f a k = ((path_length_holds_means i (c.cert i)).0 (long i l) b e n f).1 (omega arith)

  pub non_empty_san : ((i : ℕ) → i < c.count → check_san (c.cert i) ≡ true) → NonEmptySAN c
  non_empty_san h i l = (check_san_means (c.cert i)).0 (h i l)

  pub empty_subject_implies_critical_san_law : empty_subject_implies_critical_san (c.cert 0) ≡ true → EmptySubjectImpliesCriticalSAN c
  empty_subject_implies_critical_san_law h = (empty_subject_means (c.cert 0)).0 h

  -- ---- rule 7
  module _ (ids : (i : ℕ) → i < c.count → check_auth_subject_key_id (is_root c i) (eqb i 0) (c.cert i) ≡ true) where
    -- with rule 1: there is a root
    module _ (two : 2 ≤ c.count) where
      root_ids : ids_not_critical (root c) ≡ true
      unfolding check_auth_subject_key_id
      root_ids = and_left _ _ (ids (c.count - 1) (omega arith))

      pub aki_non_critical : AKINonCritical c
      aki_non_critical = aki_unmarked (root c) root_ids

      pub non_critical_root_ski : NonCriticalRootSKI c
      non_critical_root_ski = ski_unmarked (root c) root_ids

    -- with rule 9: above the leaf there is a BC, so the version is at least 2
    pub non_leaf_has_ski : NonLeafMustBeCA c → NonLeafHasSKI c
    unfolding check_auth_subject_key_id has_key_ids
    non_leaf_has_ski ca i m l = by_version (leb 2 (c.cert i).version) (and_right (ids_not_critical (c.cert i)) _ (ids i l)) where
      by_version : (t : Bool) → pick t (has_key_ids (is_root c i) (eqb i 0) (c.cert i)) (has_no_parts (c.cert i)) ≡ true → (s : Ski) × ((c.cert i).ski ≡ some s)
      by_version true h = (is_there_means (c.cert i).ski).0 (rw (ne_eqb i 0 (λ e. omega arith)) at (and_right (is_root c i || there_and (λ (a : Aki). is_there a.key_id) (c.cert i).aki) _ h))
      by_version false h = let (b, e, y) = ca i (omega arith) l in absurd (no_bc (c.cert i) b h e)
