use Rattle.model.proofs.Laws.{list_past, list_at}
use Rattle.model.proofs.policy.list.Goals as goal

pub returns-then-words-n : goal.returns-then-words-n
returns-then-words-n c = list_past _ _ c.if-words-n.true c.rows_in.ensures

pub returns : goal.returns
returns c = list_at _ _ c.word.ensures c.word-2.ensures c.rows_in-2.ensures
