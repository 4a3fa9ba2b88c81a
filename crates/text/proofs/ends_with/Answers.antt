use Rattle.text.proofs.Laws.{end_short, end_same}
use Rattle.text.proofs.ends_with.Goals as goal

pub returns-then-s-r : goal.returns-then-s-r
returns-then-s-r c = end_short _ _ _ c.if-s-r.true

pub returns : goal.returns
returns c = let a = c.args in end_same a.letters a.s.now a.r.now c.if-s-r.false c.same_lowered.ensures
