use mathlib.Core.Path.{sym, ◌∙◌}
use native.Mathlib.Omega.{arith}
use Rattle.search.proofs.Steps.{line_late, line_found, line_clear, row_fits, fits_as}
use Rattle.search.proofs.with_line.Goals as goal

pub returns-then-is_settled : goal.returns-then-is_settled
returns-then-is_settled c = line_late _ _ _ _ (sym c.is_settled.ensures ∙ c.if-is_settled.true)

pub first_row-i-requires : goal.first_row-i-requires
first_row-i-requires c = fits_as _ _ c.rows_of-r.ensures

pub overflow_mul-word : goal.overflow_mul-word
overflow_mul-word c = omega (arith, row_fits _ _ _ _ _ c.if-i-r.true (fits_as _ _ c.rows_of-r.ensures))

pub overflow_add-word : goal.overflow_add-word
overflow_add-word c = omega (arith, row_fits _ _ _ _ _ c.if-i-r.true (fits_as _ _ c.rows_of-r.ensures))

pub overflow_add-word-then-i-r : goal.overflow_add-word-then-i-r
overflow_add-word-then-i-r c = omega (arith, row_fits _ _ _ _ _ c.if-i-r.true (fits_as _ _ c.rows_of-r.ensures))

pub returns-then-i-r : goal.returns-then-i-r
returns-then-i-r c = line_found _ _ _ c.args.f c.rows_of-r.ensures c.first_row-i.ensures c.if-i-r.true c.earlier.ensures

pub returns : goal.returns
returns c = line_clear _ _ _ _ c.rows_of-r.ensures c.first_row-i.ensures c.if-i-r.false
