use Rattle.view.specs.Shown.{head_of}
use Rattle.view.proofs.head.Goals as goal

pub returns : goal.returns
unfolding head_of
returns c = c.field.ensures
