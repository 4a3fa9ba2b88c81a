use Rattle.constraints.proofs.check_subject.Goals as goal

pub returns : goal.returns
returns c = rw (← c.cert_range.ensures) c.subject_passes.ensures
