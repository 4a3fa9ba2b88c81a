use Rattle.lists.proofs.entry_is.Goals as goal

pub returns : goal.returns
returns c = rw (← c.entry.ensures) c.same.ensures
