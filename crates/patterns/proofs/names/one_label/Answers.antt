use mathlib.Core.Path.{sym}
use native.Mathlib.Omega.{arith}
use lib.Seq.{length-take-le}
use Rattle.patterns.proofs.Hosts.{label_short, label_other, label_dots}
use Rattle.patterns.proofs.names.one_label.Goals as goal

pub returns-then-name-tail : goal.returns-then-name-tail
returns-then-name-tail c = label_short _ _ _ c.if-name-tail.true

pub returns-then-not-ends_with : goal.returns-then-not-ends_with
returns-then-not-ends_with c = label_other _ _ _ c.if-name-tail.false c.ends_with.ensures c.if-not-ends_with.true

pub slice_bounds-has_class-end : goal.slice_bounds-has_class-end
slice_bounds-has_class-end c = sym (length-take-le _ _ (omega arith))

pub returns : goal.returns
returns c = label_dots _ _ _ c.if-name-tail.false c.ends_with.ensures c.if-not-ends_with.false c.has_class.ensures
