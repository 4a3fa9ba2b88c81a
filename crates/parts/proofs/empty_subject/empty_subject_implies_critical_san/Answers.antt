use mathlib.Core.Path.{refl, ap₂}
use mathlib.Core.Bool.{◌||◌}
use Rattle.parts.specs.EmptySubject.{empty_subject_implies_critical_san}
use Rattle.model.proofs.Marks.{is_critical_law}
use Rattle.parts.proofs.Laws.{some_row}
use Rattle.parts.proofs.empty_subject.empty_subject_implies_critical_san.Goals as goal

pub returns : goal.returns
unfolding empty_subject_implies_critical_san
returns c = ap₂ ◌||◌ (some_row _ _ c.cert_range-subject.ensures) (is_critical_law _ _ _ c.cert_word.ensures refl)
