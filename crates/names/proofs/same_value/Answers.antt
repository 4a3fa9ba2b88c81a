use Rattle.names.proofs.Laws.{as_given, normalised}
use Rattle.names.proofs.same_value.Goals as goal

pub returns-in-AsGiven : goal.returns-in-AsGiven
returns-in-AsGiven c = as_given _ _ _ c.in-AsGiven.is c.same.ensures

pub returns-in-Normalised : goal.returns-in-Normalised
returns-in-Normalised c = normalised _ _ _ c.in-Normalised.is c.same_normal.ensures
