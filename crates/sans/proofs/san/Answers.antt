-- Assumes nothing.
use mathlib.Core.Path.{sym, ◌∙◌}
use Rattle.sans.proofs.san.Goals as goal

pub returns-then-cert_word-eq0 : goal.returns-then-cert_word-eq0
returns-then-cert_word-eq0 c = sym c.cert_word.ensures ∙ c.if-cert_word-eq0.true

pub returns : goal.returns
returns c = ((λ e. c.if-cert_word-eq0.false (c.cert_word.ensures ∙ e)), c.cert_range.ensures)
