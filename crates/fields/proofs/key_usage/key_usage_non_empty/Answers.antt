use mathlib.Core.Path.{sym, ◌∙◌}
use Rattle.model.proofs.Optional.{absent_passes, present_passes}
use Rattle.fields.specs.KeyUsage.{has_bit, key_usage_non_empty}
use Rattle.fields.proofs.Laws.{some_bit}
use Rattle.fields.proofs.key_usage.key_usage_non_empty.Goals as goal

pub returns-then-cert_word-eq0 : goal.returns-then-cert_word-eq0
unfolding key_usage_non_empty
returns-then-cert_word-eq0 c = absent_passes _ _ _ (sym c.cert_word.ensures ∙ c.if-cert_word-eq0.true)

pub returns : goal.returns
unfolding key_usage_non_empty has_bit
returns c = present_passes _ _ _ (λ z. c.if-cert_word-eq0.false (c.cert_word.ensures ∙ z)) (rw c.cert_word-2.ensures (some_bit _))
