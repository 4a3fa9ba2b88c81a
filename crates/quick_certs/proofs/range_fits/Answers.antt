use mathlib.Core.Path.{ap}
use mathlib.Core.Bool.{not}
use Rattle.table.specs.Table.{word}
use Rattle.quick_certs.proofs.range_fits.Goals as goal

pub returns : goal.returns
unfolding word
returns c = ap not c.ends_past.ensures
