use Rattle.sections.proofs.Steps.{section_bad, section_good}
use Rattle.sections.proofs.with_section.Goals as goal

pub returns-then-is_misplaced : goal.returns-then-is_misplaced
returns-then-is_misplaced c = section_bad _ _ _ c.args.f c.is_misplaced.ensures c.if-is_misplaced.true c.earlier.ensures

pub returns : goal.returns
returns c = section_good _ _ _ _ c.is_misplaced.ensures c.if-is_misplaced.false
