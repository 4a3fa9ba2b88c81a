use mathlib.Core.Path.{refl, ap₂}
use mathlib.Core.Bool.{◌&&◌}
use Rattle.model.specs.Decode.{flag_of, bit_of}
use Rattle.parts.specs.Ca.{check_ca}
use Rattle.model.proofs.Optional.{passes, there_passes}
use Rattle.parts.proofs.ca.check_ca.Goals as goal

pub returns : goal.returns
unfolding check_ca flag_of bit_of
returns c = ap₂ ◌&&◌ (there_passes _ _ c.cert_word.ensures _ (rw c.cert_word-2.ensures refl)) (passes _ _ c.cert_word-4.ensures _ (rw c.cert_word-3.ensures refl))
