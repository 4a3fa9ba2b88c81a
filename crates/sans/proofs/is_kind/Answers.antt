use Rattle.sans.proofs.Laws.{kind_is}
use Rattle.sans.proofs.is_kind.Goals as goal

pub returns : goal.returns
returns c = kind_is _ _ _ _ c.kind.ensures c.from.ensures
