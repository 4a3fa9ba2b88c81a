use Rattle.hosts.proofs.rdn_names.Goals as goal

pub returns : goal.returns
returns c = rw (← c.rdn.ensures) c.any_common_names.ensures
