-- Assumes nothing.
use Rattle.model.specs.Decode.{value_at}
use Rattle.rows.proofs.value.Goals as goal

pub returns : goal.returns
unfolding value_at
returns c = c.string_named.ensures
