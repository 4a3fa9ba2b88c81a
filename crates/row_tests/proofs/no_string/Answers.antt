use mathlib.Core.Path.{ap₂}
use lib.Dec.{leb}
use Rattle.row_tests.specs.Wrong.{no_string}
use Rattle.row_tests.proofs.no_string.Goals as goal

pub returns : goal.returns
unfolding no_string
returns c = ap₂ leb c.count.ensures c.word.ensures
