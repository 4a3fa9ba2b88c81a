use native.Mathlib.Omega.{arith}
use mathlib.Core.Path.{◌∙◌}
use Rattle.table.proofs.Laws.{word_past}
use Rattle.table.proofs.field.Goals as goal

pub returns-then-j-ge-FAR : goal.returns-then-j-ge-FAR
returns-then-j-ge-FAR c = word_past _ _ (omega arith) ∙ c.row_at-row.ensures.by_index _

pub overflow_add-row : goal.overflow_add-row
overflow_add-row c = omega arith

pub returns : goal.returns
returns c = c.word.ensures ∙ c.row_at-row.ensures.by_index _
