use Rattle.names.proofs.Numbers.{numbers_same}
use Rattle.names.proofs.same_attr.Goals as goal

pub returns-then-same_numbers : goal.returns-then-same_numbers
returns-then-same_numbers c = numbers_same _ _ _ _ _ c.same_numbers.ensures c.if-same_numbers.true
