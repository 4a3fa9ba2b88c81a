use mathlib.Core.Path.{ap, ap₂}
use mathlib.Core.Bool.{not, ◌&&◌, ◌||◌}
use Rattle.row_tests.specs.Wrong.{extensions_wrong}
use Rattle.row_tests.proofs.Row.extensions_wrong.Goals as goal

pub returns : goal.returns
unfolding extensions_wrong
returns c = ap₂ ◌||◌ c.over.ensures (ap₂ ◌&&◌ (ap not c.there.ensures) c.some_part.ensures)
