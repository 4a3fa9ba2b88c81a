use mathlib.Core.Path.{sym, ap, ap₂}
use lib.Dec.{eqb}
use borrow.Author.Tests.{eq-eqb}
use Rattle.ascii.specs.Bytes.{lower_byte}
use Rattle.text.proofs.lowered_equal.Goals as goal

pub returns-then-x-y : goal.returns-then-x-y
returns-then-x-y c = sym (eq-eqb _ _ (ap lower_byte c.if-x-y.true))

pub returns : goal.returns
returns c = ap₂ eqb c.lower.ensures c.lower-2.ensures
