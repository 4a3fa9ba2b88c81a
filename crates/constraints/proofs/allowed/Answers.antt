-- Assumes nothing.
use Rattle.constraints.proofs.Laws.{is_excluded, is_free, is_permitted}
use Rattle.constraints.proofs.allowed.Goals as goal

pub returns-then-covered : goal.returns-then-covered
returns-then-covered g c covers tells = is_excluded _ _ _ _ (tells _ _ c.covered.ensures) c.if-covered.true

pub returns-then-has_kind : goal.returns-then-has_kind
returns-then-has_kind g c covers tells = is_permitted _ _ _ _ (tells _ _ c.covered.ensures) c.has_kind.ensures c.if-covered.false c.if-has_kind.true (tells _ _ c.covered-then-has_kind.ensures)

pub returns : goal.returns
returns g c covers tells = is_free _ _ _ _ (tells _ _ c.covered.ensures) c.has_kind.ensures c.if-covered.false c.if-has_kind.false
