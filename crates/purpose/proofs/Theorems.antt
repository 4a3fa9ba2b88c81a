-- What rule 8 means: the same said another way. Assumes nothing.
use native.Mathlib.Omega.{arith}
use mathlib.Core.Path.{◌≡◌}
use mathlib.Core.Logic.{◌↔◌}
use mathlib.Core.Bool.{true}
use Rattle.laws.proofs.Meaning.{any_index, index_any}
use Rattle.laws.proofs.Optional.{if_there_means}
use Rattle.model.specs.Model.{Cert, other_usage}
use Rattle.purpose.specs.Purpose.{serves, extended_key_usage_valid}
use Rattle.purpose.specs.Stated.{ExtendedKeyUsageValid}
use Rattle.purpose.specs.declared.Serving.{Serving}

pub extended_key_usage_valid_means : (s : Serving) (c : Cert) → (extended_key_usage_valid s c ≡ true) ↔ ExtendedKeyUsageValid s c
unfolding extended_key_usage_valid
extended_key_usage_valid_means s c = (to, from) where
  to : extended_key_usage_valid s c ≡ true → ExtendedKeyUsageValid s c
  to h e i = let (k, l, m, y) = any_index other_usage (serves s) e.usages ((if_there_means _ c.eku).0 h e i) in (k, m, y)

  from : ExtendedKeyUsageValid s c → extended_key_usage_valid s c ≡ true
  from f = (if_there_means _ c.eku).1 (λ e i. let (k, m, y) = f e i in index_any other_usage (serves s) e.usages (k, omega arith, m, y))
