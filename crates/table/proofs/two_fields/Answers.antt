use native.Mathlib.Omega.{arith}
use Rattle.table.proofs.Laws.{two_past, two_in}
use Rattle.table.proofs.two_fields.Goals as goal

pub returns-then-j-ge-FAR : goal.returns-then-j-ge-FAR
returns-then-j-ge-FAR c = two_past _ _ _ _ _ c.row_at-row.ensures.by_index (omega arith)

pub overflow_add-at : goal.overflow_add-at
overflow_add-at c = omega arith

pub overflow_add-at-2 : goal.overflow_add-at-2
overflow_add-at-2 c = omega arith

pub returns : goal.returns
returns c = two_in _ _ _ _ _ c.row_at-row.ensures.by_index c.word.ensures c.word-2.ensures
