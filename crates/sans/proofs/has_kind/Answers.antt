use mathlib.Core.Path.{refl}
use Rattle.model.specs.Decode.{kind_at, generals_in}
use Rattle.view.proofs.Laws.{some_row}
use Rattle.sans.proofs.Laws.{kind_is}
use Rattle.sans.proofs.has_kind.Goals as goal

pub returns : goal.returns
unfolding kind_at generals_in
returns c = some_row _ _ _ _ _ _ _ c.some_word.ensures (λ n. kind_is _ _ _ _ refl c.from.ensures)
