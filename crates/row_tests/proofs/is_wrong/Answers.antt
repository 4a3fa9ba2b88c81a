use Rattle.row_tests.proofs.Reasons.{by_start}
use Rattle.row_tests.proofs.is_wrong.Goals as goal

pub returns : goal.returns
returns c = let a = c.args in by_start a.t a.lent.words.now a.lent.bytes.now a.q a.j c.min-start.ensures c.is_wrong.ensures
