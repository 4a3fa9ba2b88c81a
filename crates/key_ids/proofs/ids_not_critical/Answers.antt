use mathlib.Core.Path.{refl, ap₂}
use mathlib.Core.Bool.{◌&&◌}
use Rattle.key_ids.specs.KeyIds.{ids_not_critical}
use Rattle.model.proofs.Marks.{not_critical_law}
use Rattle.key_ids.proofs.ids_not_critical.Goals as goal

pub returns : goal.returns
unfolding ids_not_critical
returns c = ap₂ ◌&&◌ (not_critical_law _ _ _ c.cert_word.ensures refl) (not_critical_law _ _ _ c.cert_word-2.ensures refl)
