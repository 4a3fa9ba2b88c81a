-- Rule 11: a SAN names something. Assumes nothing.
use Rattle.std.specs.Prelude.{Bool, not}
use Rattle.laws.specs.Lists.{is_empty}
use Rattle.laws.specs.Optional.{if_there}
use Rattle.model.specs.Model.{Cert, San}

-- SAN, if present, has a name, of any kind
unfoldable pub check_san : Cert → Bool
check_san c = if_there (λ (s : San). not (is_empty s.names)) c.san
