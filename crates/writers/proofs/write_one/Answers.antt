-- One test, and one entry where it holds. Written by tools/reports.py. Assumes nothing.
use Rattle.faults.specs.Index.{asked}
use Rattle.writers.proofs.write_one.Goals as goal

pub returns : goal.returns
unfolding asked
returns c = rw (← c.breaks.ensures) c.put.ensures
