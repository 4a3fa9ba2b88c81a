-- An entry is written whole, or not at all. Assumes nothing.
use native.Mathlib.Omega.{arith}
use mathlib.Core.Path.{refl}
use lib.ListN.{length-set}
use Rattle.faults.proofs.Laws.{put_cut, put_fits}
use Rattle.faults.proofs.put_entry.Goals as goal

pub returns-then-report-lt3 : goal.returns-then-report-lt3
returns-then-report-lt3 c = put_cut _ _ (omega arith)

pub bounds-report-1 : goal.bounds-report-1
bounds-report-1 c = simp length-set (omega arith)

pub returns : goal.returns
returns c = put_fits _ _ c.if-report-lt3.false (rw (c.first_word.ensures, c.second_word.ensures) refl)
