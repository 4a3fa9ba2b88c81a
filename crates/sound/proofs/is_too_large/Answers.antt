use mathlib.Core.Path.{refl}
use Rattle.sound.specs.Limits.{too_large}
use Rattle.sound.proofs.is_too_large.Goals as goal

pub returns : goal.returns
unfolding too_large
returns c = refl
