use native.Mathlib.Omega.{arith}
use Rattle.parts.proofs.Laws.{at_leaf, above_leaf_law}
use Rattle.parts.proofs.path_length.long_enough.Goals as goal

pub returns-then-at-eq0 : goal.returns-then-at-eq0
returns-then-at-eq0 c = at_leaf _ _ c.ranges.length c.if-at-eq0.true

pub returns : goal.returns
returns c = above_leaf_law _ _ c.ranges.length c.if-at-eq0.false (omega arith)
