use Rattle.table.specs.Table.{count_of}
use Rattle.table.proofs.count.Goals as goal

pub returns : goal.returns
unfolding count_of
returns c = c.word.ensures
