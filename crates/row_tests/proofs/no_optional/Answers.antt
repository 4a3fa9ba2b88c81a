use mathlib.Core.Path.{ap₂}
use lib.Dec.{ltb}
use Rattle.row_tests.specs.Wrong.{no_optional}
use Rattle.row_tests.proofs.no_optional.Goals as goal

pub returns : goal.returns
unfolding no_optional
returns c = ap₂ ltb c.count.ensures c.word.ensures
