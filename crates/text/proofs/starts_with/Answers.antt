use mathlib.Core.Path.{sym}
use lib.Seq.{length-take-le}
use Rattle.text.proofs.Laws.{start_short, start_same}
use Rattle.text.proofs.starts_with.Goals as goal

pub returns-then-s-k : goal.returns-then-s-k
returns-then-s-k c = start_short _ _ c.if-s-k.true

pub slice_bounds-same-end : goal.slice_bounds-same-end
slice_bounds-same-end c = sym (length-take-le _ _ c.if-s-k.false)

pub returns : goal.returns
returns c = start_same _ _ c.if-s-k.false c.same.ensures
