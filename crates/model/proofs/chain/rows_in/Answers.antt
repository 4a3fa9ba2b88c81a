use Rattle.model.specs.Decode.{rows_in}
use Rattle.model.proofs.chain.rows_in.Goals as goal

pub returns : goal.returns
unfolding rows_in
returns c = rw (← c.count.ensures) c.clip.ensures
