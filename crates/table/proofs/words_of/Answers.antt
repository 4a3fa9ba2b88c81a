use native.Mathlib.Omega.{arith}
use native.Mathlib.Nat.{min-eq_left}
use mathlib.Core.Path.{sym}
use Rattle.table.proofs.Laws.{none_taken, too_many, product_fits}
use Rattle.table.proofs.words_of.Goals as goal

pub returns-then-size-eq0 : goal.returns-then-size-eq0
returns-then-size-eq0 c = none_taken _ _ _ c.if-size-eq0.true

pub returns-then-size-n : goal.returns-then-size-n
returns-then-size-n c = too_many _ _ _ c.if-size-eq0.false c.if-size-n.true

pub overflow_mul-result : goal.overflow_mul-result
overflow_mul-result c = omega (arith, product_fits _ _ _ c.if-size-eq0.false c.if-size-n.false)

pub returns : goal.returns
returns c = sym (min-eq_left (product_fits _ _ _ c.if-size-eq0.false c.if-size-n.false))
