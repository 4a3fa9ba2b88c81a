use Rattle.constraints.proofs.Laws.{asked_lowered, asked_cleaned}
use Rattle.constraints.proofs.asked_name.Goals as goal

pub returns-in-Lowered : goal.returns-in-Lowered
returns-in-Lowered c = asked_lowered _ _ c.in-Lowered.is

pub returns-in-Cleaned : goal.returns-in-Cleaned
returns-in-Cleaned c = asked_cleaned _ _ c.in-Cleaned.is c.clean_name.ensures c.clean_name-in-Cleaned.ensures
