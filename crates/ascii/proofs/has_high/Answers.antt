use native.Mathlib.Omega.{arith}
use Rattle.ascii.specs.Bytes.{is_high}
use Rattle.ascii.proofs.Blocks.{none_yet, block_here, block_next, block_last}
use Rattle.ascii.proofs.has_high.Goals as goal

pub returns-then-s-lt8 : goal.returns-then-s-lt8
returns-then-s-lt8 c = c.has_high_few.ensures

pub loop-i-init : goal.loop-i-init
loop-i-init c = (omega arith, none_yet is_high c.args.s.now)

pub has_high_eight-requires : goal.has_high_eight-requires
has_high_eight-requires c = omega (arith, c.loop-i.invariant.0)

pub returns-then-has_high_eight : goal.returns-then-has_high_eight
returns-then-has_high_eight c = block_here is_high _ _ c.has_high_eight.ensures (omega (arith, c.loop-i.invariant.0)) c.if-has_high_eight.true

pub overflow_add-i : goal.overflow_add-i
overflow_add-i c = omega (arith, c.loop-i.invariant.0)

pub loop-i-preserved : goal.loop-i-preserved
loop-i-preserved c = (c.loop-i.invariant.0, block_next is_high c.args.s.now _ c.has_high_eight.ensures c.if-has_high_eight.false c.loop-i.invariant.1)

pub has_high_eight-requires-2 : goal.has_high_eight-requires-2
has_high_eight-requires-2 c = omega (arith, c.loop-i.invariant.0)

pub returns : goal.returns
returns c = block_last is_high _ _ _ c.loop-i.invariant.0 c.loop-i-test.false c.loop-i.invariant.1 c.has_high_eight-2.ensures
