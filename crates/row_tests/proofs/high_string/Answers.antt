use mathlib.Core.Path.{ap, ◌∙◌}
use Rattle.laws.specs.Lists.{any}
use Rattle.ascii.specs.Bytes.{is_high}
use Rattle.row_tests.specs.Wrong.{high_string}
use Rattle.row_tests.proofs.high_string.Goals as goal

pub returns : goal.returns
unfolding high_string
returns c = c.has_high.ensures ∙ ap (any is_high) c.string.ensures
