-- Assumes nothing.
use Rattle.model.specs.Decode.{oid_at}
use Rattle.rows.proofs.oid.Goals as goal

pub returns : goal.returns
unfolding oid_at
returns c = c.string_named.ensures
