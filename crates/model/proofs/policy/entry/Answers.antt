-- Assumes nothing.
use Rattle.model.specs.Decode.{entry_at}
use Rattle.model.proofs.policy.entry.Goals as goal

pub returns : goal.returns
unfolding entry_at
returns c = c.string_named.ensures
