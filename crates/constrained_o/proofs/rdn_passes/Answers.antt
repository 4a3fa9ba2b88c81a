use Rattle.constrained_o.proofs.rdn_passes.Goals as goal

pub returns : goal.returns
returns c = rw (← c.rdn.ensures) c.attributes_pass.ensures
