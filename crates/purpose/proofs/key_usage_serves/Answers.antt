use mathlib.Core.Path.{refl}
use Rattle.model.specs.Decode.{bit_of}
use Rattle.purpose.specs.Purpose.{key_usage_serves}
use Rattle.model.proofs.Optional.{passes}
use Rattle.purpose.proofs.key_usage_serves.Goals as goal

pub returns : goal.returns
unfolding key_usage_serves bit_of
returns c = passes _ _ c.cert_word.ensures _ (rw c.cert_word-bits.ensures refl)
