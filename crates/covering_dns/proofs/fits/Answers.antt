use mathlib.Core.Bool.{false≢true}
use borrow.Author.Tests.{leb-true}
use Rattle.table.proofs.Laws.{ends_inside}
use borrow.Author.Rules.{rules}
use Rattle.covering_dns.proofs.fits.Goals as goal

pub returns-then-total-at : goal.returns-then-total-at
returns-then-total-at c = λ e. absurd (false≢true e)

pub returns : goal.returns
returns c = λ e. ends_inside _ _ _ _ (search rules) c.if-total-at.false (leb-true _ _ e)
