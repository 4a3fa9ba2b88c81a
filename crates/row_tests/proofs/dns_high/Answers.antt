use Rattle.row_tests.proofs.Reasons.{dns_other, dns_name}
use Rattle.row_tests.proofs.dns_high.Goals as goal

pub returns-then-word-ne0 : goal.returns-then-word-ne0
returns-then-word-ne0 c = dns_other _ _ _ _ c.word.ensures c.if-word-ne0.true

pub returns : goal.returns
returns c = dns_name _ _ _ _ c.word.ensures c.if-word-ne0.false c.number_high.ensures
