-- Assumes nothing.
use mathlib.Core.Path.{refl}
use Rattle.fields.specs.KeyLevel.{check_cert_key_level, strong_key}
use Rattle.fields.proofs.key_level.check_cert_key_level.Goals as goal

pub returns-in-Rsa : goal.returns-in-Rsa
unfolding check_cert_key_level strong_key
returns-in-Rsa c = rw (← c.in-Rsa.ensures) refl

pub returns-in-Dsa : goal.returns-in-Dsa
unfolding check_cert_key_level strong_key
returns-in-Dsa c = rw (← c.in-Dsa.ensures) refl

pub returns-in-Other : goal.returns-in-Other
unfolding check_cert_key_level strong_key
returns-in-Other c = rw (← c.in-Other.ensures) refl
