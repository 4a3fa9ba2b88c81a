use Rattle.model.specs.Decode.{list_at}
use Rattle.lists.proofs.matches.Goals as goal

pub returns : goal.returns
unfolding list_at
returns c = rw (← c.list.ensures) c.any_matches.ensures
