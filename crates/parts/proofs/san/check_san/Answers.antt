use Rattle.model.specs.Decode.{generals_in}
use Rattle.parts.specs.SanNames.{check_san}
use Rattle.model.proofs.Optional.{passes}
use Rattle.parts.proofs.Laws.{some_row}
use Rattle.parts.proofs.san.check_san.Goals as goal

pub returns : goal.returns
unfolding check_san generals_in
returns c = passes _ _ c.cert_word.ensures _ (some_row _ _ c.cert_range-names.ensures)
