-- What `check_auth_key_id` means: the same said another way. Assumes nothing.
use mathlib.Core.Path.{◌≡◌}
use mathlib.Core.Logic.{◌↔◌}
use mathlib.Core.Bool.{true}
use Rattle.laws.proofs.Equal.{equal_list, list_equal}
use Rattle.laws.proofs.Optional.{if_there_means}
use Rattle.laws.proofs.Tests.{and_left, and_right}
use Rattle.model.specs.Model.{Cert}
use Rattle.auth_key_id.specs.AuthKeyId.{key_id_is, same_key_id, same_serial, check_auth_key_id}
use Rattle.auth_key_id.specs.Stated.{CheckAuthKeyId}

module _ (issuer subject : Cert) where
  pub check_auth_key_id_means : (check_auth_key_id issuer subject ≡ true) ↔ CheckAuthKeyId issuer subject
  unfolding check_auth_key_id same_key_id same_serial key_id_is
  check_auth_key_id_means = (to, from) where
    to : check_auth_key_id issuer subject ≡ true → CheckAuthKeyId issuer subject
    to h a e = let b = (if_there_means _ subject.aki).0 h a e in (
      λ k i s j. equal_list _ _ ((if_there_means _ issuer.ski).0 ((if_there_means _ a.key_id).0 (and_left (same_key_id issuer a) _ b) k i) s j),
      λ n i. equal_list _ _ ((if_there_means _ a.serial).0 (and_right (same_key_id issuer a) _ b) n i),
    )

    from : CheckAuthKeyId issuer subject → check_auth_key_id issuer subject ≡ true
    from f = (if_there_means _ subject.aki).1 (λ a e. let (g, h) = f a e in rw ((if_there_means (key_id_is issuer) a.key_id).1 (λ k i. (if_there_means _ issuer.ski).1 (λ s j. list_equal _ _ (g k i s j)))) ((if_there_means _ a.serial).1 (λ n i. list_equal _ _ (h n i))))
