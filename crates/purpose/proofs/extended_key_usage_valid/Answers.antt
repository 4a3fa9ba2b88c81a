use mathlib.Core.Path.{sym, ◌∙◌}
use Rattle.model.proofs.Optional.{absent_passes, present_passes}
use Rattle.purpose.specs.Purpose.{extended_key_usage_valid}
use Rattle.purpose.proofs.extended_key_usage_valid.Goals as goal

pub returns-then-cert_word-eq0 : goal.returns-then-cert_word-eq0
unfolding extended_key_usage_valid
returns-then-cert_word-eq0 c = absent_passes _ _ _ (sym c.cert_word.ensures ∙ c.if-cert_word-eq0.true)

pub returns : goal.returns
unfolding extended_key_usage_valid
returns c = present_passes _ _ _ (λ z. c.if-cert_word-eq0.false (c.cert_word.ensures ∙ z)) (rw (← c.cert_range.ensures) c.any_serves.ensures)
