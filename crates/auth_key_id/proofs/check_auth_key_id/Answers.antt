use mathlib.Core.Path.{sym, ap₂, ◌∙◌}
use mathlib.Core.Bool.{◌&&◌}
use Rattle.model.proofs.Optional.{absent_passes, present_passes}
use Rattle.auth_key_id.specs.AuthKeyId.{check_auth_key_id}
use Rattle.auth_key_id.proofs.check_auth_key_id.Goals as goal

pub returns-then-cert_word-eq0 : goal.returns-then-cert_word-eq0
unfolding check_auth_key_id
returns-then-cert_word-eq0 c = absent_passes _ _ _ (sym c.cert_word.ensures ∙ c.if-cert_word-eq0.true)

pub returns : goal.returns
unfolding check_auth_key_id
returns c = present_passes _ _ _ (λ z. c.if-cert_word-eq0.false (c.cert_word.ensures ∙ z)) (ap₂ ◌&&◌ c.same_key_id.ensures c.same_serial.ensures)
