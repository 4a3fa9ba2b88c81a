use Rattle.text.proofs.Laws.{as_given, both_lowered}
use Rattle.text.proofs.taken_equal.Goals as goal

pub returns-in-AsGiven : goal.returns-in-AsGiven
returns-in-AsGiven c = as_given _ _ _ c.in-AsGiven.is c.lower.ensures

pub returns-in-Lowered : goal.returns-in-Lowered
returns-in-Lowered c = both_lowered _ _ _ c.in-Lowered.is c.lowered_equal.ensures
