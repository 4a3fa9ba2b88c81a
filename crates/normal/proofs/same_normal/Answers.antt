use Rattle.normal.proofs.Forms.{same_texts, same_start, one_ended, other_ended, bytes_differ, bytes_agree}
use Rattle.normal.proofs.same_normal.Goals as goal

pub returns-then-same : goal.returns-then-same
returns-then-same c = same_texts _ _ c.same.ensures c.if-same.true

pub loop-x-init : goal.loop-x-init
loop-x-init c = same_start _ _ c.past_spaces-left.ensures c.past_spaces-right.ensures

pub returns-in_default-advance : goal.returns-in_default-advance
returns-in_default-advance c = other_ended _ _ c.loop-x.invariant c.in-Some.ensures.0 c.in_default-advance.ensures

pub returns-then-x-y : goal.returns-then-x-y
returns-then-x-y c = bytes_differ _ _ c.loop-x.invariant c.in-Some.ensures.0 c.in-Some-advance.ensures.0 c.if-x-y.true

pub loop-x-preserved : goal.loop-x-preserved
loop-x-preserved c = bytes_agree _ _ c.loop-x.invariant c.in-Some.ensures.0 c.in-Some-advance.ensures.0 c.if-x-y.false

pub returns : goal.returns
returns c = one_ended _ _ c.loop-x.invariant c.in_default.ensures _ c.advance-2.ensures _ c.is_none.ensures
