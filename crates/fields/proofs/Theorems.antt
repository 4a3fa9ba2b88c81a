-- What rules 2 to 6 mean: the same said another way, and document 01's bounds. Assumes nothing.
use Prim.Native.Nat.{ℕ, ◌≤◌}
use mathlib.Core.Path.{◌≡◌, refl}
use mathlib.Core.Logic.{◌↔◌}
use mathlib.Core.Bool.{Bool, true, false}
use lib.Dec.{leb}
use borrow.Author.Tests.{le-leb, leb-true}
use Rattle.laws.proofs.Equal.{equal_list, list_equal}
use Rattle.laws.proofs.Tests.{and_left, and_right}
use Rattle.model.specs.Model.{Cert, Task, Key, rsa, dsa, other_key}
use Rattle.fields.specs.KeyLevel.{strong_key, check_cert_key_level}
use Rattle.fields.specs.Signatures.{outer_inner_sig_match}
use Rattle.fields.specs.Validity.{check_cert_time}
use Rattle.fields.specs.Stated.{CheckCertTime, OuterInnerSigMatch, CheckCertKeyLevel}

pub check_cert_time_means : (t : Task) (c : Cert) → (check_cert_time t c ≡ true) ↔ CheckCertTime t c
unfolding check_cert_time
check_cert_time_means t c = (to, from) where
  to : check_cert_time t c ≡ true → CheckCertTime t c
  to h = (leb-true _ _ (and_left _ _ h), leb-true _ _ (and_right (leb c.not_before t.now) _ h))

  from : CheckCertTime t c → check_cert_time t c ≡ true
  from (l, m) = rw (le-leb _ _ l) (le-leb _ _ m)

pub outer_inner_sig_match_means : (c : Cert) → (outer_inner_sig_match c ≡ true) ↔ OuterInnerSigMatch c
unfolding outer_inner_sig_match
outer_inner_sig_match_means c = (equal_list _ _, list_equal _ _)

module _ (least : ℕ) (dsa_allowed : Bool) where
  strong_to : (k : Key) → strong_key least dsa_allowed k ≡ true → ((bits : ℕ) → k ≡ rsa bits → least ≤ bits) × (k ≡ dsa → dsa_allowed ≡ true)
  unfolding strong_key
  strong_to (rsa n) h = (λ bits e. leb-true least bits (cc), λ e. cc)
  strong_to dsa h = (λ bits e. leb-true least bits (cc), λ e. h)
  strong_to other_key h = (λ bits e. leb-true least bits (cc), λ e. cc)

  strong_from : (k : Key) → ((bits : ℕ) → k ≡ rsa bits → least ≤ bits) → (k ≡ dsa → dsa_allowed ≡ true) → strong_key least dsa_allowed k ≡ true
  unfolding strong_key
  strong_from (rsa n) f g = le-leb least n (f n refl)
  strong_from dsa f g = g refl
  strong_from other_key f g = refl

  pub check_cert_key_level_means : (c : Cert) → (check_cert_key_level least dsa_allowed c ≡ true) ↔ CheckCertKeyLevel least dsa_allowed c
  unfolding check_cert_key_level
  check_cert_key_level_means c = (strong_to c.key, λ (f, g). strong_from c.key f g)

-- RSA 1024 passes, 1023 fails
pub rsa_1024 : (d : Bool) → strong_key 1024 d (rsa 1024) ≡ true
unfolding strong_key
rsa_1024 d = refl

pub rsa_1023 : (d : Bool) → strong_key 1024 d (rsa 1023) ≡ false
unfolding strong_key
rsa_1023 d = refl
