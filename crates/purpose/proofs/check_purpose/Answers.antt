use mathlib.Core.Path.{refl}
use Rattle.purpose.specs.Purpose.{check_purpose}
use Rattle.purpose.proofs.check_purpose.Goals as goal

pub returns : goal.returns
unfolding check_purpose
returns c = rw (c.extended_key_usage_valid.ensures, c.key_usage_serves.ensures) refl
