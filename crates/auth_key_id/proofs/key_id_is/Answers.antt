use mathlib.Core.Path.{sym, ◌∙◌}
use Rattle.model.proofs.Optional.{absent_passes, present_passes}
use Rattle.auth_key_id.specs.AuthKeyId.{key_id_is}
use Rattle.auth_key_id.proofs.key_id_is.Goals as goal

pub returns-then-cert_word-eq0 : goal.returns-then-cert_word-eq0
unfolding key_id_is
returns-then-cert_word-eq0 c = absent_passes _ _ _ (sym c.cert_word.ensures ∙ c.if-cert_word-eq0.true)

pub returns : goal.returns
unfolding key_id_is
returns c = present_passes _ _ _ (λ z. c.if-cert_word-eq0.false (c.cert_word.ensures ∙ z)) (rw (← c.cert_string.ensures) c.same.ensures)
