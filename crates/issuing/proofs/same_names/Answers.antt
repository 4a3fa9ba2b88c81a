use Rattle.issuing.proofs.same_names.Goals as goal

pub returns : goal.returns
returns c = rw (← c.cert_range.ensures, ← c.cert_range-2.ensures) c.same_dn.ensures
