use Rattle.names.proofs.Laws.{oids_equal, oids_differ}
use Rattle.names.proofs.same_as.Goals as goal

pub returns-then-same : goal.returns-then-same
returns-then-same c = oids_equal _ _ _ c.oid.ensures c.requires c.same.ensures c.if-same.true c.value.ensures c.value-then-same.ensures c.same_value.ensures

pub returns : goal.returns
returns c = oids_differ _ _ _ c.oid.ensures c.requires c.same.ensures c.if-same.false
