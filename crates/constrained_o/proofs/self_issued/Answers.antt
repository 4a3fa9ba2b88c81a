use Rattle.constraints.specs.Keeps.{self_issued}
use Rattle.constrained_o.proofs.self_issued.Goals as goal

pub returns : goal.returns
unfolding self_issued
returns c = rw (← c.cert_range-subject.ensures, ← c.cert_range-issuer.ensures) c.same_dn.ensures
