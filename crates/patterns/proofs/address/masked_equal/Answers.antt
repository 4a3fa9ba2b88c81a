use mathlib.Core.Path.{refl}
use Rattle.patterns.specs.Address.{masked_equal}
use Rattle.patterns.proofs.address.masked_equal.Goals as goal

pub returns : goal.returns
unfolding masked_equal
returns c = refl
