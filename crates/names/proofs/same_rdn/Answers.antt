use Rattle.names.proofs.same_rdn.Goals as goal

pub returns : goal.returns
returns c = rw (← c.rdn.ensures, ← c.rdn-2.ensures) c.same_attrs.ensures
