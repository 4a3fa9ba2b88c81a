use Rattle.sans.specs.Sans.{is_common}
use Rattle.sans.proofs.is_common.Goals as goal

pub returns : goal.returns
unfolding is_common
returns c = rw (← c.oid.ensures) c.same.ensures
