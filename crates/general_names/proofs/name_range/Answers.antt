-- Assumes nothing.
use Rattle.model.specs.Decode.{name_range}
use Rattle.general_names.proofs.name_range.Goals as goal

pub returns : goal.returns
unfolding name_range
returns c = c.rows_named.ensures
