-- Assumes nothing.
use Rattle.table.proofs.Laws.{first_is, second_is}
use Rattle.model.proofs.chain.rows_named.Goals as goal

pub returns : goal.returns
returns c = rw (← first_is _ _ _ _ c.two_fields-p.ensures, ← second_is _ _ _ _ c.two_fields-p.ensures) c.rows_in.ensures
