-- Document 01's fixed lists, name by name in its order. Assumes nothing.
use Rattle.model.specs.Model.{Chain}
use Rattle.standard.specs.Standard.{NoExpiration, OuterInnerSigMatch, KeyUsageNonEmpty, IssuerSubjectUIDVersion, PathLenNonNegative, PathLenConstraint, NonLeafMustBeCA, NonLeafHasKeyCertSign, NonEmptySAN, AKINonCritical, NonLeafHasSKI, EmptySubjectImpliesCriticalSAN, NonCriticalRootSKI, NoDSA}

-- OpenSSL: the ten of both, and three
pub record OpenSslList (c : Chain) : Type 0 where
  pub no_expiration : NoExpiration c
  pub outer_inner_sig_match : OuterInnerSigMatch c
  pub key_usage_non_empty : KeyUsageNonEmpty c
  pub issuer_subject_uid_version : IssuerSubjectUIDVersion c
  pub path_len_non_negative : PathLenNonNegative c
  pub path_len_constraint : PathLenConstraint c
  pub non_leaf_must_be_ca : NonLeafMustBeCA c
  pub non_leaf_has_key_cert_sign : NonLeafHasKeyCertSign c
  pub non_empty_san : NonEmptySAN c
  pub empty_subject_implies_critical_san : EmptySubjectImpliesCriticalSAN c
  pub aki_non_critical : AKINonCritical c
  pub non_critical_root_ski : NonCriticalRootSKI c
  pub non_leaf_has_ski : NonLeafHasSKI c

-- Chrome: the ten of both, and one
pub record ChromeList (c : Chain) : Type 0 where
  pub no_expiration : NoExpiration c
  pub outer_inner_sig_match : OuterInnerSigMatch c
  pub key_usage_non_empty : KeyUsageNonEmpty c
  pub issuer_subject_uid_version : IssuerSubjectUIDVersion c
  pub path_len_non_negative : PathLenNonNegative c
  pub path_len_constraint : PathLenConstraint c
  pub non_leaf_must_be_ca : NonLeafMustBeCA c
  pub non_leaf_has_key_cert_sign : NonLeafHasKeyCertSign c
  pub non_empty_san : NonEmptySAN c
  pub empty_subject_implies_critical_san : EmptySubjectImpliesCriticalSAN c
  pub no_dsa : NoDSA c
