use Rattle.row_tests.proofs.Reasons.{words_past}
use Rattle.row_tests.proofs.two_end_past.Goals as goal

pub returns-then-words-p : goal.returns-then-words-p
returns-then-words-p c = words_past _ _ _ c.if-words-p.true

pub returns : goal.returns
returns c = rw (← c.word.ensures, ← c.word-2.ensures) c.ends_past.ensures
