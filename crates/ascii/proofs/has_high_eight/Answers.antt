use Rattle.ascii.proofs.Blocks.{any_eight}
use Rattle.ascii.proofs.has_high_eight.Goals as goal

pub returns : goal.returns
returns c = any_eight _ _
