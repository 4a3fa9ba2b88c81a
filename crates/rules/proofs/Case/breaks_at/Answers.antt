use mathlib.Core.Path.{refl, ap}
use mathlib.Core.Bool.{not}
use Rattle.faults.specs.Places.{when}
use Rattle.faults.proofs.Laws.{other}
use Rattle.rules.specs.Rules.{broken_at}
use Rattle.rules.proofs.Case.breaks_at.Goals as goal

pub returns-then-rule-eq-SYMANTEC : goal.returns-then-rule-eq-SYMANTEC
unfolding broken_at when
returns-then-rule-eq-SYMANTEC c = rw (c.symantec_holds.ensures, c.if-rule-eq-SYMANTEC.true) refl

pub returns : goal.returns
unfolding broken_at
returns c =
    rw (c.holds_at.ensures, c.row_of.ensures, c.is_root-root.ensures)
    (ap not (other _ _ c.if-rule-eq-SYMANTEC.false refl))
