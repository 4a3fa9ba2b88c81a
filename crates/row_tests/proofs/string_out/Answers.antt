use Rattle.row_tests.specs.Wrong.{string_out}
use Rattle.row_tests.proofs.string_out.Goals as goal

pub returns : goal.returns
unfolding string_out
returns c = c.two_end_past.ensures
