use Rattle.search.proofs.Steps.{section_none, section_all}
use Rattle.search.proofs.section_rows.Goals as goal

pub returns-then-is_misplaced : goal.returns-then-is_misplaced
returns-then-is_misplaced c = section_none _ _ c.is_misplaced.ensures c.if-is_misplaced.true

pub returns : goal.returns
returns c = section_all _ _ c.is_misplaced.ensures c.if-is_misplaced.false c.offset.ensures c.count.ensures
