use Rattle.hosts.proofs.subject_names.Goals as goal

pub returns : goal.returns
returns c = rw (← c.cert_range.ensures) c.any_rdn_names.ensures
