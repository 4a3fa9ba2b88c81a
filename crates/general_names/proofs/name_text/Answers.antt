-- Assumes nothing.
use Rattle.model.specs.Decode.{name_text}
use Rattle.general_names.proofs.name_text.Goals as goal

pub returns : goal.returns
unfolding name_text
returns c = c.string_named.ensures
