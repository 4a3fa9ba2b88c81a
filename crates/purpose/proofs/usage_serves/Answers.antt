use Rattle.purpose.proofs.usage_serves.Goals as goal

pub returns : goal.returns
returns c = rw (← c.usage.ensures) c.serves.ensures
