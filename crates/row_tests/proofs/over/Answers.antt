use mathlib.Core.Path.{ap}
use lib.Dec.{ltb}
use Rattle.row_tests.specs.Wrong.{over}
use Rattle.row_tests.proofs.over.Goals as goal

pub returns : goal.returns
unfolding over
returns c = ap (ltb _) c.word.ensures
