use Rattle.row_tests.proofs.Reasons.{no_optional_string, optional_string_law}
use Rattle.row_tests.proofs.optional_high.Goals as goal

pub returns-then-n-eq0 : goal.returns-then-n-eq0
returns-then-n-eq0 c = no_optional_string _ _ _ c.word-n.ensures c.if-n-eq0.true

pub returns : goal.returns
returns c = optional_string_law _ _ _ c.word-n.ensures c.if-n-eq0.false c.high_string.ensures
