use Rattle.model.specs.Decode.{usage_word}
use Rattle.rows.proofs.usage.Goals as goal

pub returns : goal.returns
unfolding usage_word
returns c = c.field.ensures
