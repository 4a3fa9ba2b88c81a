use mathlib.Core.Path.{sym, ◌∙◌}
use Rattle.model.proofs.Optional.{absent_passes, present_passes}
use Rattle.parts.specs.PathLength.{path_length_holds}
use Rattle.parts.proofs.Laws.{length_read}
use Rattle.parts.proofs.path_length.path_length_holds.Goals as goal

pub returns-then-cert_word-eq0 : goal.returns-then-cert_word-eq0
unfolding path_length_holds
returns-then-cert_word-eq0 c = absent_passes _ _ _ (sym c.cert_word.ensures ∙ c.if-cert_word-eq0.true)

pub returns-then-cert_word-eq0-2 : goal.returns-then-cert_word-eq0-2
unfolding path_length_holds
returns-then-cert_word-eq0-2 c = present_passes _ _ _ (λ z. c.if-cert_word-eq0.false (c.cert_word.ensures ∙ z)) (absent_passes _ _ _ (sym c.cert_word-2.ensures ∙ c.if-cert_word-eq0-2.true))

pub returns : goal.returns
unfolding path_length_holds
returns c = present_passes _ _ _ (λ z. c.if-cert_word-eq0.false (c.cert_word.ensures ∙ z)) (present_passes _ _ _ (λ z. c.if-cert_word-eq0-2.false (c.cert_word-2.ensures ∙ z)) (length_read _ _ (record { sfits = c.signed.type_inv }) c.signed.ensures c.cert_word-3.ensures c.long_enough.ensures))
