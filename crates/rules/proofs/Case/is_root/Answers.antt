use mathlib.Core.Path.{refl}
use Rattle.rules.proofs.Case.is_root.Goals as goal

pub returns : goal.returns
returns c = rw c.count.ensures refl
