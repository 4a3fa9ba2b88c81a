use mathlib.Core.Path.{ap₂}
use mathlib.Core.Bool.{◌&&◌}
use Rattle.key_ids.specs.KeyIds.{has_no_parts}
use Rattle.model.proofs.Optional.{is_absent}
use Rattle.key_ids.proofs.Laws.{no_extensions_law}
use Rattle.key_ids.proofs.has_no_parts.Goals as goal

pub returns : goal.returns
unfolding has_no_parts
returns c = ap₂ ◌&&◌ (ap₂ ◌&&◌ (ap₂ ◌&&◌ (ap₂ ◌&&◌ (ap₂ ◌&&◌ (ap₂ ◌&&◌ (ap₂ ◌&&◌ (ap₂ ◌&&◌ (ap₂ ◌&&◌ (no_extensions_law _ c.cert_word.ensures) (is_absent _ _ c.cert_word-2.ensures)) (is_absent _ _ c.cert_word-3.ensures)) (is_absent _ _ c.cert_word-4.ensures)) (is_absent _ _ c.cert_word-5.ensures)) (is_absent _ _ c.cert_word-6.ensures)) (is_absent _ _ c.cert_word-7.ensures)) (is_absent _ _ c.cert_word-8.ensures)) (is_absent _ _ c.cert_word-9.ensures)) (is_absent _ _ c.cert_word-10.ensures)
