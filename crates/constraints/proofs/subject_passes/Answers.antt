use Rattle.constraints.proofs.Laws.{no_subject, some_subject}
use Rattle.constraints.proofs.subject_passes.Goals as goal

pub returns-then-subject : goal.returns-then-subject
returns-then-subject c = no_subject _ _ _ _ _ c.if-subject.true

pub returns : goal.returns
returns c = some_subject _ _ _ _ _ c.if-subject.false c.check_directory_name_constraints.ensures
