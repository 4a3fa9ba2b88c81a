use mathlib.Core.Path.{refl}
use Rattle.fields.specs.Validity.{check_cert_time}
use Rattle.fields.proofs.validity.check_cert_time.Goals as goal

pub returns : goal.returns
unfolding check_cert_time
returns c = rw (c.word-now.ensures, c.cert_word.ensures, c.cert_word-2.ensures) refl
