use mathlib.Core.Path.{refl}
use borrow.Author.Tests.{le-leb}
use Rattle.quick.proofs.Rows.{such_string}
use Rattle.quick.proofs.Readable.is_ascii.Goals as goal

pub returns-then-self-s : goal.returns-then-self-s
returns-then-self-s c = rw (le-leb _ _ c.if-self-s.true) refl

pub returns : goal.returns
returns c = such_string _ _ c.if-self-s.false c.is_high.ensures
