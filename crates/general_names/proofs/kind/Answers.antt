use Rattle.model.specs.Decode.{kind_at}
use Rattle.general_names.proofs.kind.Goals as goal

pub returns : goal.returns
unfolding kind_at
returns c = c.field.ensures
