-- Rule 4: UIDs and the version. Assumes nothing.
use Rattle.std.specs.Prelude.{Bool, not, ◌||◌, eqb}
use Rattle.laws.specs.Optional.{is_there}
use Rattle.model.specs.Model.{Cert}

-- an issuer UID or a subject UID; an empty one is a UID too
abbrev pub has_uid : Cert → Bool
has_uid c = is_there c.issuer_uid || is_there c.subject_uid

-- a UID only with version 2 or 3
unfoldable pub issuer_subject_uid_version : Cert → Bool
issuer_subject_uid_version c = not (has_uid c) || eqb c.version 2 || eqb c.version 3
