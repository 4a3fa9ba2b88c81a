use borrow.Author.Tests.{le-leb, lt-leb}
use mathlib.Core.Path.{refl}
use Rattle.calendar.specs.Spans.{span_valid}
use Rattle.calendar.proofs.Calendar.span_valid.Goals as goal

pub returns-then-end-begin : goal.returns-then-end-begin
unfolding span_valid
returns-then-end-begin c = rw (lt-leb _ _ c.if-end-begin.true) refl

pub returns : goal.returns
unfolding span_valid
returns c = rw (le-leb _ _ c.if-end-begin.false) refl
