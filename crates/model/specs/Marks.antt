-- What a mark says. Assumes nothing.
use Rattle.std.specs.Prelude.{Bool, true, false}
use Rattle.model.specs.Model.{Mark, no_mark, not_critical, critical}

-- marked critical
unfoldable pub is_critical : Mark → Bool
is_critical no_mark = false
is_critical not_critical = false
is_critical critical = true
