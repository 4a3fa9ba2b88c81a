-- Assumes nothing.
use Rattle.model.specs.Decode.{rdn_range}
use Rattle.rows.proofs.rdn.Goals as goal

pub returns : goal.returns
unfolding rdn_range
returns c = c.rows_named.ensures
