use native.Mathlib.Omega.{arith}
use Rattle.table.specs.Table.{far}
use Rattle.table.proofs.Laws.{row_past, row_in}
use Rattle.table.proofs.row_at.Goals as goal

pub returns-then-words-at : goal.returns-then-words-at
returns-then-words-at c = record { by_index = row_past _ _ _ c.offset-at.ensures far (omega arith) (omega arith); upper_bound = omega arith }

pub overflow_add-result : goal.overflow_add-result
overflow_add-result c = omega arith

pub returns : goal.returns
returns c = record { by_index = row_in _ _ _ c.offset-at.ensures far (omega arith) c.words_of.ensures; upper_bound = omega arith }
