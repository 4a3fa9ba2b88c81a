use native.Mathlib.Omega.{arith}
use Rattle.table.specs.Table.{offset_of}
use Rattle.table.proofs.Laws.{word_past}
use Rattle.table.proofs.offset.Goals as goal

pub returns-then-at : goal.returns-then-at
unfolding offset_of
returns-then-at c = c.word.ensures

pub returns : goal.returns
unfolding offset_of
returns c = word_past _ _ (omega arith)
