use Rattle.text.proofs.Theorems.{taken_as_given}
use Rattle.lists.proofs.entry_matches.Goals as goal

pub returns : goal.returns
returns c = cc (taken_as_given c.entry.result.now)
