-- Each turn writes into what the turns before it left free. Assumes nothing.
use native.Mathlib.Omega.{arith}
use mathlib.Core.Path.{◌∙◌}
use Rattle.faults.proofs.Laws.{so_far_none, so_far_more, so_far_same, turn_is, so_far_done}
use Rattle.writers.proofs.write_turns.Goals.{then-t-ne0, else-t-ne0}
use Rattle.writers.proofs.write_turns.Goals as goal

pub loop-i-init : goal.loop-i-init
loop-i-init g c = (omega arith, so_far_none _ _ _ (omega arith) (omega arith))

pub loop-i-preserved : goal.loop-i-preserved
loop-i-preserved g c =
    let wrote = c.requires.1.1 _ _ _ _ c.write-t.ensures in
    let turn = turn_is g.entries c.loop-i.auto.i in (
      omega arith,
      elim c.if-t-ne0.branch [
        | then-t-ne0 w ↦ so_far_more _ (omega arith) c.loop-i.invariant.1 wrote turn (w.tally-is ∙ w.joined-tally.ensures)
        | else-t-ne0 w ↦ rw w.tally-is (so_far_same _ (omega arith) c.loop-i.invariant.1 wrote turn w.if-t-ne0.false)
      ],
    )

pub returns : goal.returns
returns g c = so_far_done _ c.loop-i.invariant.1 (omega arith)
