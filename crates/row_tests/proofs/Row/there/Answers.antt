use mathlib.Core.Path.{ap}
use mathlib.Core.Bool.{not}
use lib.Dec.{eqb}
use Rattle.row_tests.specs.Wrong.{there}
use Rattle.row_tests.proofs.Row.there.Goals as goal

pub returns : goal.returns
unfolding there
returns c = ap (λ x. not (eqb x 0)) c.word.ensures
