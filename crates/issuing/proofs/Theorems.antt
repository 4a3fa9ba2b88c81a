-- What rule 13 means: the same said another way. Assumes nothing.
use mathlib.Core.Path.{◌≡◌}
use mathlib.Core.Logic.{◌↔◌}
use mathlib.Core.Bool.{true}
use Rattle.laws.proofs.Tests.{and_left, and_right}
use Rattle.model.specs.Model.{Cert}
use Rattle.names.specs.Names.{same_dn}
use Rattle.names.specs.declared.Values.TheVariants.{Normalised}
use Rattle.names.proofs.Theorems.{same_dn_means}
use Rattle.auth_key_id.proofs.Theorems.{check_auth_key_id_means}
use Rattle.issuing.specs.Issuing.{likely_issued}
use Rattle.issuing.specs.Stated.{LikelyIssued}

module _ (issuer subject : Cert) where
  pub likely_issued_means : (likely_issued issuer subject ≡ true) ↔ LikelyIssued issuer subject
  unfolding likely_issued
  likely_issued_means = (to, from) where
    to : likely_issued issuer subject ≡ true → LikelyIssued issuer subject
    to h = ((same_dn_means Normalised _ _).0 (and_left _ _ h), (check_auth_key_id_means issuer subject).0 (and_right (same_dn Normalised issuer.subject subject.issuer) _ h))

    from : LikelyIssued issuer subject → likely_issued issuer subject ≡ true
    from (n, k) = rw ((same_dn_means Normalised issuer.subject subject.issuer).1 n) ((check_auth_key_id_means issuer subject).1 k)
