use native.Mathlib.Omega.{arith}
use Rattle.patterns.proofs.Ranges.{neither, of_four, of_sixteen}
use Rattle.patterns.proofs.address.ip_addr_in_range.Goals as goal

pub returns-then-range-n : goal.returns-then-range-n
returns-then-range-n c = neither _ _ (λ e f. c.if-range-n.true e) (λ e f. c.if-range-n.true e)

pub returns-in-4 : goal.returns-in-4
returns-in-4 c = of_four _ _ c.in-4.is c.in_range.ensures

pub returns-in-16 : goal.returns-in-16
returns-in-16 c = of_sixteen _ _ c.in-16.is c.in_range-in-16.ensures

pub returns-in_default : goal.returns-in_default
returns-in_default c = neither _ _ (λ e f. omega (arith, f)) (λ e f. omega (arith, f))
