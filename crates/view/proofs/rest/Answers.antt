use borrow.Author.Tests.{lt-ltb, le-ltb}
use Rattle.view.specs.Shown.{rest_of}
use Rattle.view.proofs.rest.Goals as goal

pub returns-then-from-to : goal.returns-then-from-to
unfolding rest_of
returns-then-from-to c = simp (lt-ltb _ _ c.if-from-to.true)

pub returns : goal.returns
unfolding rest_of
returns c = simp (le-ltb _ _ c.if-from-to.false)
