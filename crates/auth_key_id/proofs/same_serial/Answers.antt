-- Assumes nothing.
use Rattle.model.proofs.Optional.{none_passes, some_passes}
use Rattle.auth_key_id.specs.AuthKeyId.{same_serial}
use Rattle.auth_key_id.proofs.same_serial.Goals as goal

pub returns-in-None : goal.returns-in-None
unfolding same_serial
returns-in-None c = none_passes _ (rw c.cert_word.ensures at c.in-None.ensures)

pub returns-in-Some : goal.returns-in-Some
unfolding same_serial
returns-in-Some c = some_passes _ (rw c.cert_word.ensures at c.in-Some.ensures) (rw (← c.cert_string.ensures) c.same.ensures)
