-- Assumes nothing.
use Rattle.table.proofs.string_named.Goals as goal

pub returns : goal.returns
returns c = rw (← c.field.ensures) c.string.ensures
