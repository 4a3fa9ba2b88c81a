use Rattle.normal.proofs.Forms.{step_end, step_byte, step_last, step_space}
use Rattle.normal.proofs.advance.Goals as goal

pub returns-in_err-x : goal.returns-in_err-x
returns-in_err-x c = rw c.from_residual.ensures (step_end _ c.in_err-x.ensures.cases)

pub returns-then-x-ne32 : goal.returns-then-x-ne32
returns-then-x-ne32 c = step_byte c.in_ok-x.ensures.cases c.if-x-ne32.true c.lower.ensures

pub returns-then-is_empty : goal.returns-then-is_empty
returns-then-is_empty c = step_last c.in_ok-x.ensures.cases c.if-x-ne32.false c.past_spaces-rest.ensures c.is_empty.ensures c.if-is_empty.true

pub returns : goal.returns
returns c = step_space c.in_ok-x.ensures.cases c.if-x-ne32.false c.past_spaces-rest.ensures c.is_empty.ensures c.if-is_empty.false
