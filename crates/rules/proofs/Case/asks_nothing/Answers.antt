use Rattle.rules.proofs.Laws.{nothing_asked}
use Rattle.rules.proofs.Case.asks_nothing.Goals as goal

pub returns : goal.returns
returns c = nothing_asked _ _ _ _ (rw c.row_of.ensures at c.cert_word-unconstrained.ensures)
