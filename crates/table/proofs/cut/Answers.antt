use Rattle.table.proofs.Laws.{part_none, part_rest, part_whole}
use Rattle.table.proofs.cut.Goals as goal

pub returns-then-total-start : goal.returns-then-total-start
returns-then-total-start c = part_none _ _ _ c.if-total-start.true

pub returns-then-total-from : goal.returns-then-total-from
returns-then-total-from c = part_rest _ _ _ c.if-total-from.true

pub returns : goal.returns
returns c = part_whole _ _ _
