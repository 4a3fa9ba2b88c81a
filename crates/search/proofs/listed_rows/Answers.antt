use native.Mathlib.Omega.{arith}
use mathlib.Core.Path.{ap₂, ◌∙◌}
use Rattle.model.specs.Sections.{entries}
use Rattle.model.specs.Decode.{rows_in}
use Rattle.search.proofs.Steps.{listed_out, listed_fits, listed_some, listed_none}
use Rattle.search.proofs.listed_rows.Goals as goal

pub returns-then-is_misplaced : goal.returns-then-is_misplaced
returns-then-is_misplaced c = listed_out _ _ c.is_misplaced.ensures c.if-is_misplaced.true

pub returns-then-to-from : goal.returns-then-to-from
returns-then-to-from c = listed_none _ _ c.is_misplaced.ensures c.if-is_misplaced.false (c.rows_in-r.ensures ∙ ap₂ (rows_in _ entries) c.word.ensures c.word-2.ensures) c.if-to-from.true

pub overflow_add-result : goal.overflow_add-result
overflow_add-result c = omega (arith, c.offset.ensures, listed_fits _ _ c.is_misplaced.ensures c.if-is_misplaced.false (c.rows_in-r.ensures ∙ ap₂ (rows_in _ entries) c.word.ensures c.word-2.ensures) c.if-to-from.false)

pub returns : goal.returns
returns c = listed_some _ _ c.is_misplaced.ensures c.if-is_misplaced.false (c.rows_in-r.ensures ∙ ap₂ (rows_in _ entries) c.word.ensures c.word-2.ensures) c.offset.ensures c.if-to-from.false
