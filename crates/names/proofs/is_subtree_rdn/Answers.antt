use Rattle.names.proofs.Laws.{longer, no_longer}
use Rattle.names.proofs.is_subtree_rdn.Goals as goal

pub returns-then-size : goal.returns-then-size
returns-then-size c = longer _ _ c.rdn-x.ensures c.rdn-y.ensures c.size-2.ensures c.size.ensures c.if-size.true

pub returns : goal.returns
returns c = no_longer _ _ c.rdn-x.ensures c.rdn-y.ensures c.size-2.ensures c.size.ensures c.if-size.false c.has_names.ensures
