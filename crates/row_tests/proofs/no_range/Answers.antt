use Rattle.row_tests.specs.Wrong.{no_range}
use Rattle.row_tests.proofs.no_range.Goals as goal

pub returns : goal.returns
unfolding no_range
returns c = rw (← c.count.ensures) c.two_end_past.ensures
