use Rattle.sections.proofs.Steps.{in_header, past_words, no_words, by_division}
use Rattle.sections.proofs.is_misplaced.Goals as goal

pub returns-then-at-header : goal.returns-then-at-header
returns-then-at-header c = in_header _ _ _ c.offset-at.ensures c.if-at-header.true

pub returns-then-total-at : goal.returns-then-total-at
returns-then-total-at c = past_words _ _ _ c.offset-at.ensures c.if-at-header.false c.if-total-at.true

pub returns-then-size-eq0 : goal.returns-then-size-eq0
returns-then-size-eq0 c = no_words _ _ _ c.offset-at.ensures c.if-at-header.false c.if-total-at.false c.if-size-eq0.true

pub returns : goal.returns
returns c = by_division _ _ _ c.offset-at.ensures c.if-at-header.false c.if-total-at.false c.if-size-eq0.false c.count.ensures
